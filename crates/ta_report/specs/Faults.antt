-- The errors of files, of certificates and of runs, in words.
use Rattle.std.specs.Prelude.{ℕ, List, ◌++◌, codes, decimal}
use Rattle.ta_syntax.specs.declared.fault.FileFault.{FileFault}
use Rattle.ta_syntax.specs.declared.fault.FileFault.TheVariants as file
use Rattle.ta_cert.specs.declared.fault.CertFault.{CertFault}
use Rattle.ta_cert.specs.declared.fault.CertFault.TheVariants as cert
use Rattle.ta_replay.specs.declared.fault.RunFault.{RunFault}
use Rattle.ta_replay.specs.declared.fault.RunFault.TheVariants as run

-- the errors of a file
abbrev pub file_fault_text : FileFault → List ℕ
file_fault_text (file.Byte at) = codes "F1 byte at offset " ++ decimal at
file_fault_text (file.Syntax at) = codes "F2 syntax at offset " ++ decimal at
file_fault_text (file.Duplicate at) = codes "F3 duplicate name at offset " ++ decimal at
file_fault_text (file.Unknown at) = codes "F4 unknown name at offset " ++ decimal at
file_fault_text (file.WrongKind at) = codes "F5 wrong kind of name at offset " ++ decimal at
file_fault_text (file.TooLarge at) = codes "F6 too large at offset " ++ decimal at
file_fault_text (file.TooMany at) = codes "F7 too many at offset " ++ decimal at
file_fault_text (file.TooDeep at) = codes "F8 too deep at offset " ++ decimal at
file_fault_text (file.NotThreshold at) = codes "F9 not a threshold guard at offset " ++ decimal at
file_fault_text (file.CycleUpdates rule) = codes "F11 cycle with updates at rule " ++ decimal rule
file_fault_text (file.NoInitial at) = codes "F12 no initial location at offset " ++ decimal at
file_fault_text file.Memory = codes "out of memory"

-- the errors of a certificate; the last two are never printed
abbrev pub cert_fault_text : CertFault → List ℕ
cert_fault_text (cert.Line line) = codes "C1 malformed at line " ++ decimal line
cert_fault_text (cert.Truncated line) = codes "C2 truncated at line " ++ decimal line
cert_fault_text (cert.UnknownPattern line) = codes "C3 unknown pattern at line " ++ decimal line
cert_fault_text (cert.Row line row) = codes "C4 no row " ++ (decimal row ++ (codes " at line " ++ decimal line))
cert_fault_text (cert.Positive line unknown) = codes "C5 positive at unknown " ++ (decimal unknown ++ (codes " at line " ++ decimal line))
cert_fault_text (cert.NotNegative line) = codes "C6 constant not negative at line " ++ decimal line
cert_fault_text (cert.Overflow line column) = codes "C7 outside 128 bits in column " ++ (decimal column ++ (codes " at line " ++ decimal line))
cert_fault_text (cert.ExtendComplete line) = codes "C8 extension of a complete word at line " ++ decimal line
cert_fault_text (cert.SplitVariable line) = codes "C9 no such unknown at line " ++ decimal line
cert_fault_text (cert.Trailing line) = codes "C10 trailing text at line " ++ decimal line
cert_fault_text (cert.RepeatedPattern line) = codes "C11 repeated pattern at line " ++ decimal line
cert_fault_text (cert.Pair line) = codes "C14 no such order at line " ++ decimal line
cert_fault_text (cert.Question line) = codes "C15 no such question at line " ++ decimal line
cert_fault_text cert.Failed = codes "C12 failed"
cert_fault_text cert.Memory = codes "out of memory"

-- the errors of a run
abbrev pub run_fault_text : RunFault → List ℕ
run_fault_text (run.Line line) = codes "N1 malformed at line " ++ decimal line
run_fault_text (run.Name line) = codes "N2 name at line " ++ decimal line
run_fault_text (run.Resilience comparison) = codes "N3 resilience comparison " ++ (decimal comparison ++ codes " is false")
run_fault_text run.Processes = codes "N4 wrong number of processes"
run_fault_text (run.Start comparison) = codes "N5 start comparison " ++ (decimal comparison ++ codes " is false")
run_fault_text (run.NotEmpty line) = codes "N6 not empty at line " ++ decimal line
run_fault_text (run.Guard line guard) = codes "N7 guard " ++ (decimal guard ++ (codes " is false at line " ++ decimal line))
run_fault_text (run.Count line) = codes "N8 too few processes at line " ++ decimal line
run_fault_text (run.Event line) = codes "N9 event is false at line " ++ decimal line
run_fault_text (run.MissingEvent event) = codes "N10 event " ++ (decimal event ++ codes " has no mark")
run_fault_text (run.Overflow line) = codes "N11 outside 128 bits at line " ++ decimal line
run_fault_text (run.Order line) = codes "N12 order of marks at line " ++ decimal line
run_fault_text run.Memory = codes "out of memory"

-- A schema, and values for it, have at most one error.
use Rattle.std.specs.Prelude.{ℕ, ◌≡◌, ◌≢◌, List}
use Rattle.ta_automaton.specs.declared.file.File.{File}
use Rattle.ta_smt.specs.declared.fault.AdmitFault.{AdmitFault}
use Rattle.ta_smt.specs.declared.fault.AdmitFault.TheVariants.{Memory}
use Rattle.ta_smt.specs.declared.fault.WordFault.{WordFault}
use Rattle.ta_smt.specs.Admit.{AdmitFaultOf, AskedWord}
use Rattle.ta_smt.specs.Named.{Spelling, WholeFaultOf, WordFaultOf}

-- bytes have at most one error as the values of a schema, out of memory aside
abbrev pub AdmitFaultsAreDetermined : Type 0
AdmitFaultsAreDetermined = (file : File) (word : AskedWord) (bytes : List ℕ) (e f : AdmitFault) → e ≢ Memory → f ≢ Memory → AdmitFaultOf file word bytes e
    → AdmitFaultOf file word bytes f → e ≡ f

-- there is at most one reason why a file does not have a schema
abbrev pub WordFaultsAreDetermined : Type 0
WordFaultsAreDetermined = (file : File) (spelled : Spelling) (e f : WordFault) → WordFaultOf file spelled e → WordFaultOf file spelled f → e ≡ f

-- or does not have it complete
abbrev pub WholeFaultsAreDetermined : Type 0
WholeFaultsAreDetermined = (file : File) (spelled : Spelling) (e f : WordFault) → WholeFaultOf file spelled e → WholeFaultOf file spelled f → e ≡ f

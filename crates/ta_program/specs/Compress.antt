-- The command `compress`: it shortens a run.
use Rattle.std.specs.Prelude.{ℕ, ◌≡◌, ◌≢◌, ◌≤◌, ◌⊎◌, List, [], ◌++◌, codes, decimal, unsigned_abs, Option, Some}
use Rattle.ta_automaton.specs.declared.file.File.{File}
use Rattle.ta_compress.specs.declared.fault.CompressFault.{CompressFault}
use Rattle.ta_compress.specs.declared.fault.CompressFault.TheVariants as fault
use Rattle.ta_compress.specs.Faults.{Compressible, CompressFaultOf, GuardsOutOfRangeAt, IsShortRun, ReplaysInRange}
use Rattle.ta_compress.specs.Pieces.{CompressOf}
use Rattle.ta_compress.specs.Tales.{SameTale}
use Rattle.ta_replay.specs.declared.fault.RunFault.{RunFault}
use Rattle.ta_replay.specs.declared.fault.RunFault.TheVariants as runs
use Rattle.ta_replay.specs.declared.run.Run.{Run}
use Rattle.ta_replay.specs.Fits.{Fits}
use Rattle.ta_replay.specs.RunText.{IsRunText, run_text}
use Rattle.ta_replay.specs.Shows.{Shows, factors_sum}
use Rattle.ta_replay.specs.TextFaults.{TextFault}
use Rattle.ta_report.specs.Faults.{run_fault_text}
use Rattle.ta_shelf.specs.Put.{Told}
use Rattle.ta_shelf.specs.Sink.{with_text}
use Rattle.ta_shelf.specs.declared.answer.Answer.{Answer}
use Rattle.ta_shelf.specs.Commands.{Meaning}
use Rattle.ta_shelf.specs.Lines.{file_line}
use Rattle.ta_shelf.specs.Sights.{HasBytes, View, in_files}
use Rattle.ta_shelf.specs.Stages.{FileMeans, Kind, Writes, after, replies}
use Rattle.ta_program.specs.Values.{limits_of}
use Rattle.ta_program.specs.declared.limits.TheConstants.{RUN}
use Rattle.ta_program.specs.Asked.{Asked, ask}
use Rattle.ta_program.specs.Kinds.{IsFile, file_kind}
use Rattle.ta_program.specs.Values.{TwoNames, two_names}
use Rattle.ta_program.specs.Words.{behind_name}

-- the bytes are the text of a run that can be compressed
pub record Compresses (file : File) (bytes : List ℕ) (run : Run) : Type 0 where
  pub text : IsRunText file run bytes
  pub able : Compressible file run

-- an error of a text as a run
abbrev pub of_run : RunFault → CompressFault
of_run runs.Memory = fault.Memory
of_run other = fault.Replay other

-- the first error of the bytes as the text of a run
pub record IsTextFault (file : File) (bytes : List ℕ) (found : CompressFault) : Type 0 where
  pub first : RunFault
  pub is : found ≡ of_run first
  pub text : TextFault file bytes first

-- the bytes are the text of a run that is refused so
pub record IsRefusedRun (file : File) (bytes : List ℕ) (found : CompressFault) : Type 0 where
  pub run : Run
  pub text : IsRunText file run bytes
  pub first : CompressFaultOf file run found

-- the first error of a text as a run of a file, of its replay, or of its compression
pub record CompressFaultIn (file : File) (bytes : List ℕ) (found : CompressFault) : Type 0 where
  pub no_memory : found ≢ fault.Memory
  pub first : IsTextFault file bytes found ⊎ IsRefusedRun file bytes found
  pub compresses_nothing : (run : Run) → ¬ Compresses file bytes run

-- the errors of a run that is to be compressed, in words
abbrev pub compress_fault_text : CompressFault → List ℕ
compress_fault_text (fault.Replay found) = run_fault_text found
compress_fault_text (fault.TooManySteps steps) = codes "N13 " ++ (decimal (unsigned_abs steps) ++ codes " unit steps")
compress_fault_text fault.Memory = codes "out of memory"

-- RUN, for a file
abbrev pub long_kind : File → Kind Run CompressFault
long_kind file = record { limit = RUN; means = Compresses file; at_fault = CompressFaultIn file; broken = λ bytes fault. ⊥; words = compress_fault_text }

-- the compressed run: it fits the file and shows its pattern, begins at the same configuration and marks the same events in the
-- same order at the same configurations, and is short
pub record ShortOf (file : File) (run short : Run) : Type 0 where
  pub exact : CompressOf file run short
  pub fits : Fits file short
  pub shows : Shows file short
  pub same : SameTale file run short
  pub is_short : IsShortRun file short

-- the text is that of the compressed run
pub record SaysShort (file : File) (run : Run) (answer : Answer) : Type 0 where
  pub short : Run
  pub is : ShortOf file run short
  pub writes : Writes 0 (run_text file short) answer

-- RUN of a file is read, and the text of the compressed run is written
abbrev pub short_meaning : File → List ℕ → Meaning
short_meaning file name = after (long_kind file) name [] (λ run. replies [] (SaysShort file run))

-- FILE is read, and then RUN
abbrev pub compress_meaning : TwoNames → Meaning
compress_meaning asked = after (file_kind (limits_of asked.wide)) asked.file [] (λ file. short_meaning file asked.other)

-- `compress FILE RUN [--wide]`
abbrev pub compress_of : List (List ℕ) → Option TwoNames
compress_of = behind_name (codes "compress") two_names

abbrev pub compress_asked : List (List ℕ) → Asked
compress_asked words = ask (λ asked. Some (asked.file, limits_of asked.wide)) compress_meaning (two_names words)

-- FILE is legal, RUN is the text of a run that can be compressed, and the output gained the text of the compressed run
pub record CompressHolds (view : View) (asked : TwoNames) (written written' : Option (List ℕ)) : Type 0 where
  pub file : File
  pub is_file : IsFile (limits_of asked.wide) view asked.file file
  pub run : Run
  pub is_run : FileMeans (long_kind file) view asked.other run
  pub short : Run
  pub is_short : ShortOf file run short
  pub wrote : written' ≡ with_text written (run_text file short)

-- known files that have a legal FILE and the text of a run of it that can be compressed
pub record CanCompress (told : Told) (asked : TwoNames) : Type 0 where
  pub file : File
  pub is_file : IsFile (limits_of asked.wide) (in_files told) asked.file file
  pub run : Run
  pub is_run : FileMeans (long_kind file) (in_files told) asked.other run

-- known files that have a legal FILE and the text of a run of it that shows its pattern in range and has few steps, but at this line a guard
-- of FILE leaves the range first
pub record LeavesRange (told : Told) (asked : TwoNames) (line : ℕ) : Type 0 where
  pub file : File
  pub is_file : IsFile (limits_of asked.wide) (in_files told) asked.file file
  pub bytes : List ℕ
  pub had : HasBytes (in_files told) asked.other RUN.bytes bytes
  pub run : Run
  pub text : IsRunText file run bytes
  pub replayed : ReplaysInRange file run
  pub few : factors_sum run.lines ≤ 1000000
  pub leaves : GuardsOutOfRangeAt file.automaton run line

-- what is printed of that
abbrev pub out_of_range_line : List ℕ → ℕ → List ℕ
out_of_range_line name line = file_line name (codes "N11 outside 128 bits at line " ++ decimal line)

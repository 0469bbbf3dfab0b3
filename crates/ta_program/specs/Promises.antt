-- What `run` promises of every run of the program, in the order in which a user asks. Each line is a statement of its own, whose definition
-- says it in words.
use Rattle.std.specs.Prelude.{ℕ, List}
use Rattle.ta_shelf.specs.Ends.{Quiet, State}
use Rattle.ta_program.specs.Asked.{Runs}
use Rattle.ta_program.specs.Ended.{Ended}
use Rattle.ta_program.specs.Headline.{StatusTells}
use Rattle.ta_program.specs.Program.{Admitting, Benches, CertificateWritten, CheckProves, Completes, CountsFile, ExactlySo, Exports, KeepsFiles, Opens}
use Rattle.ta_program.specs.Program.{PrintedHolds, ReplayShows, RestProves, RestsReport, RunShortens, SafeAsShown, Searches, ShowsFile, SparesRead}
use Rattle.ta_program.specs.Program.{Tellings, UsageExactly, VerifyReports}
use Rattle.ta_program.specs.Reported.{ReportsExactly}
use Rattle.ta_program.specs.Requests.{request_of}
use Rattle.ta_program.specs.Understood.{Understood}
use Rattle.ta_program.specs.Version.{VersionPrints}

-- what is read, printed and written
pub record Promises (r : Ended) : Type 0 where
  -- what do its words mean: of the file that `show` prints, and of the bytes of FILE
  pub understood : Understood r
  pub headline : StatusTells r
  -- is what it prints true, and is all of it printed
  pub printed : PrintedHolds r
  pub reported : ReportsExactly r
  -- what does each command give
  pub verify : VerifyReports r
  pub certificate : CertificateWritten r
  pub check : CheckProves r
  pub rests : RestsReport r
  pub rest_proves : RestProves r
  pub searches : Searches r
  pub replay : ReplayShows r
  pub compress : RunShortens r
  pub shows : ShowsFile r
  pub shown_safe : SafeAsShown r
  pub export : Exports r
  pub admit : Admitting r
  pub bench : Benches r
  pub version : VersionPrints r
  -- how near is FILE to the limits of the format
  pub counts : CountsFile r
  -- with which status does it end, and when
  pub exact : ExactlySo r.status (request_of r.words) r.before.files
  pub usage : UsageExactly r
  -- which calls does it make, and what does it spare
  pub opened : Opens (request_of r.words) r.before.calls r.after.calls
  pub spares : SparesRead r

-- how it ends: what becomes of the files, and what a refusal and a failure leave and say
pub record EndPromises (status : ℕ) (words : List (List ℕ)) (before after : State) : Type 0 where
  pub complete : Completes status words before after
  pub kept : KeepsFiles status words before.shelf after.shelf
  pub refused : Quiet status before after
  pub told : Tellings (request_of words) status before after
  -- the meaning of the command that is asked for, from which all of this follows
  pub runs : Runs (request_of words) status before after

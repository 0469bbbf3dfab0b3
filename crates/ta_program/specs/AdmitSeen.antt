-- What is asked of `admit`, by the texts of the command line.
use Rattle.std.specs.Prelude.{ℕ, List}
use Rattle.ta_program.specs.declared.spelled.WordAsked.{WordAsked}
use Rattle.ta_program.specs.Admit.{AdmitAsked}
use Rattle.ta_program.specs.WordSeen.{asked_seen}

abbrev pub admit_seen : WordAsked → List ℕ → AdmitAsked
admit_seen words values = record { asked = asked_seen words; values = values }

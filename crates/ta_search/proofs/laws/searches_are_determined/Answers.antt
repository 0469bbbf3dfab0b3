use Rattle.ta_search.proofs.OneEnd.{searches_once}
use Rattle.ta_search.proofs.laws.searches_are_determined.Goals as goal

pub returns : goal.returns
returns c =
    let meanings = c.meanings_are_unique.ensures in
    let verdicts = c.verdicts_are_determined.ensures in
    searches_once (record {
      files = meanings.files;
      faults = meanings.first_faults;
      samples = verdicts.samples;
      verdicts = verdicts.verdicts;
      certificates =
          c.certificates_are_determined.ensures;
    })

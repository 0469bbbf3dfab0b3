use Rattle.ta_replay.proofs.Common.{◌≡◌, ◌∙◌, ◌++◌, ◌∷◌, [], ℕ, List, ap, append_cancel_left, arith, codes, inl, inr, length-map, map, refl, subst, sym}
use Rattle.ta_replay.proofs.Common.{slice_get_within, File, HeadRead, IsMisnamed, IsNamedLine, IsNameOf, NoNameOf, SplitAt, head_line, name_at}
use Rattle.ta_replay.proofs.Common.{pattern_name}
use Rattle.ta_replay.proofs.reading.read_head.Goals as goal

-- no pattern has the name
no_pattern : (file : File) (bytes line behind name : List ℕ) → SplitAt 10 bytes line behind → IsNamedLine (codes "run ") line name
    → NoNameOf (map pattern_name file.patterns) name → IsMisnamed file bytes 1
no_pattern file bytes line behind name split named none = record {
  ls = [];
  line = line;
  behind = behind;
  text = split.split;
  begun = inl refl;
  form = (name, named);
  unnamed = λ run later fits lines.
      let same : head_line file run.pattern ≡ line = cc in
      let within = slice_get_within file.patterns run.pattern fits.pattern fits.named in
      none run.pattern (record {
        exists = omega (arith, within, length-map file.patterns pattern_name);
        named = append_cancel_left (codes "run ") (name_at (map pattern_name file.patterns) run.pattern) name (same ∙ named.text);
      });
  place = refl;
}

-- the pattern with this number has the name
pattern_read : (file : File) (bytes line behind name : List ℕ) (number : ℕ) → SplitAt 10 bytes line behind → IsNamedLine (codes "run ") line name
    → IsNameOf (map pattern_name file.patterns) name number → HeadRead file bytes number behind
pattern_read file bytes line behind name number split named is = record {
  exists = omega (arith, is.exists, length-map file.patterns pattern_name);
  read = split.split ∙ ap (λ l. l ++ (10 ∷ behind)) (named.text ∙ ap (λ n. codes "run " ++ n) (sym is.named));
}

pub returns-in_default-clause-fault : goal.returns-in_default-clause-fault
returns-in_default-clause-fault c = record {
  ls = [];
  rest = c.args.bytes.now;
  text = refl;
  fault = inr (inl (record { begun = inl refl; no_feed = c.in_default.ensures }));
  place = refl;
}

pub returns-in_default-read_named-clause-fault : goal.returns-in_default-read_named-clause-fault
returns-in_default-read_named-clause-fault c = record {
  ls = [];
  rest = c.args.bytes.now;
  text = refl;
  fault = inr (inr (record {
    line = c.in-Some.line.now;
    behind = c.in-Some.behind.now;
    begun = inl refl;
    next = c.in-Some.ensures.split;
    no_feed = c.in-Some.ensures.first;
    other = λ named. c.in_default-read_named.ensures named.0 named.1;
  }));
  place = refl;
}

pub returns-in-None-clause-fault : goal.returns-in-None-clause-fault
returns-in-None-clause-fault c =
    let none = subst (λ ps. NoNameOf (map pattern_name ps) c.in-Some-read_named.name.now) c.as_slice.ensures c.in-None.ensures in
    no_pattern c.args.file.now c.args.bytes.now c.in-Some.line.now c.in-Some.behind.now c.in-Some-read_named.name.now c.in-Some.ensures
    c.in-Some-read_named.ensures none

pub returns-in-Some-find_pattern-clause-read : goal.returns-in-Some-find_pattern-clause-read
returns-in-Some-find_pattern-clause-read c =
    let is = subst (λ ps. IsNameOf (map pattern_name ps) c.in-Some-read_named.name.now c.in-Some-find_pattern.number) c.as_slice.ensures
    c.in-Some-find_pattern.ensures in
    pattern_read c.args.file.now c.args.bytes.now c.in-Some.line.now c.in-Some.behind.now c.in-Some-read_named.name.now c.in-Some-find_pattern.number
    c.in-Some.ensures c.in-Some-read_named.ensures is

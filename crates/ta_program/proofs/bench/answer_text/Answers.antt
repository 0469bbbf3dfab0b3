use Rattle.ta_program.proofs.Common.{◌≡◌, ◌∙◌, ◌++◌, ap, sym, Bool, ℕ, List, append_assoc, append-nil, codes, if◌then◌else◌, true, false, Verdict}
use Rattle.std.proofs.Common.{◌*◌}
use Rattle.std.specs.Prelude.{decimal}
use Rattle.std.specs.String.{string_bytes}
use Rattle.ta_report.specs.Report.{verdict_text}
use Rattle.ta_program.specs.Bench.{accepted_line}
use Rattle.ta_program.proofs.bench.answer_text.Goals as goal

-- the line of a pattern
abbrev line : List ℕ → Verdict → List ℕ
line name v = codes "pattern " ++ (name ++ (codes ": " ++ (verdict_text v ++ codes "\n")))

-- the lines before it, and it
abbrev lines : ℕ → List ℕ → List ℕ
lines k behind = codes "bench " ++ (decimal k ++ (codes "\nrules " ++ (decimal (2 * k) ++ (codes "\n" ++ behind))))

lines_more : (k : ℕ) (front behind : List ℕ) → lines k front ++ behind ≡ lines k (front ++ behind)
lines_more k front behind =
    ap (λ (bs : List ℕ). codes "bench " ++ bs) (append_assoc (decimal k) (codes "\nrules " ++ (decimal (2 * k) ++ (codes "\n" ++ front))) behind
    ∙ ap (λ (bs : List ℕ). decimal k ++ (codes "\nrules " ++ bs)) (append_assoc (decimal (2 * k)) (codes "\n" ++ front) behind))

pub returns-then-is_unknown : goal.returns-then-is_unknown
returns-then-is_unknown c =
    let k = c.args.k in
    let said = line c.args.pattern.now.name c.args.verdict.now in
    let text : string_bytes c.in_ok-text.text ≡ lines k (line c.as_str.result.now c.args.verdict.now) = c.in_ok-text.ensures.ok in
    let named = ap (λ (name : List ℕ). lines k (line name c.args.verdict.now)) c.as_str.ensures in
    record {
      numbered = c.writing.ensures.numbered ∙ ap (λ (b : Bool). if b then 2 else 0) c.if-is_unknown.ensures;
      written = c.writing.ensures.written ∙ c.from_string.ensures ∙ text ∙ named ∙ sym (append-nil (lines k said)) ∙ lines_more k said (accepted_line true)
          ∙ ap (λ (b : Bool). lines k (said ++ accepted_line b)) c.if-is_unknown.ensures;
      no_put = c.writing.ensures.no_put;
    }

pub returns : goal.returns
returns c =
    let k = c.args.k in
    let said = line c.args.pattern.now.name c.args.verdict.now in
    let text : string_bytes c.in_ok-text.text ≡ lines k (line c.as_str.result.now c.args.verdict.now) = c.in_ok-text.ensures.ok in
    let named = ap (λ (name : List ℕ). lines k (line name c.args.verdict.now)) c.as_str.ensures in
    record {
      numbered = c.writing-2.ensures.numbered ∙ ap (λ (b : Bool). if b then 2 else 0) c.if-is_unknown.ensures;
      written = c.writing-2.ensures.written ∙ c.from_string-2.ensures ∙ c.in_ok-push_str.ensures.bytes
          ∙ ap (λ (bs : List ℕ). bs ++ accepted_line false) (text ∙ named) ∙ lines_more k said (accepted_line false)
          ∙ ap (λ (b : Bool). lines k (said ++ accepted_line b)) c.if-is_unknown.ensures;
      no_put = c.writing-2.ensures.no_put;
    }

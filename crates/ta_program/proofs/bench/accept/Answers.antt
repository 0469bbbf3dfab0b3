use Rattle.ta_program.proofs.Common.{◌≡◌, ◌∙◌, ◌+◌, ◌++◌, List, ℕ, Err, sym, ap, subst, inr, drop, take, take_all, IsCertified, IsExactCheck, Subject}
use Rattle.ta_program.proofs.Common.{CertificateFor, CheckerStandsFor, claiming, concat}
use Rattle.ta_base.proofs.Lists.{concat_next}
use Rattle.ta_program.proofs.Benching.{feed_memory, finish_memory, split_pieces}
use Rattle.ta_base.specs.LimitRows.{narrow}
use Rattle.ta_base.specs.declared.limits.Limits.{Limits}
use Rattle.ta_rest.specs.declared.claim.Claim.TheVariants.{Safe}
use Rattle.ta_program.proofs.bench.accept.Goals as goal

pub feed-requires : goal.feed-requires
feed-requires c = inr (_, c.loop-piece.invariant.stands)

pub certificate_memory-requires : goal.certificate_memory-requires
certificate_memory-requires c =
    let pieces = c.args.pieces.now in
    let k = c.loop-piece.piece-index in
    let front = concat (take k pieces) in
    let behind = concat (drop (k + 1) pieces) in
    let bytes : c.as_bytes.result.now ≡ c.piece-item.result = c.as_bytes.ensures.value ∙ c.as_str.ensures in
    let more : front ++ c.as_bytes.result.now ≡ concat (take (k + 1) pieces)
    = ap (λ (b : List ℕ). front ++ b) bytes ∙ sym (concat_next pieces k c.piece-item.result c.loop-piece-test.true (sym c.piece-item.is)) in
    let all : concat pieces ≡ (front ++ c.as_bytes.result.now) ++ behind = split_pieces k pieces ∙ ap (λ (b : List ℕ). b ++ behind) (sym more) in
    feed_memory c.args.scoped.now.file front c.as_bytes.result.now behind c.feed.new.self c.in-Err.fault
    (c.in-Err.ensures.subject ∙ c.loop-piece.invariant.subject)
    (c.in-Err.ensures.answer front c.loop-piece.invariant.stands) (subst (λ (t : List ℕ). IsCertified c.args.scoped.now.file t) all c.requires)

pub loop-piece-preserved : goal.loop-piece-preserved
loop-piece-preserved c =
    let pieces = c.args.pieces.now in
    let k = c.loop-piece.piece-index in
    let bytes : c.as_bytes.result.now ≡ c.piece-item.result = c.as_bytes.ensures.value ∙ c.as_str.ensures in
    let more = ap (λ (b : List ℕ). concat (take k pieces) ++ b) bytes
    ∙ sym (concat_next pieces k c.piece-item.result c.loop-piece-test.true (sym c.piece-item.is)) in
    record {
      stands = subst (λ (t : List ℕ). CheckerStandsFor c.feed.new.self t) more (c.in-Ok.ensures.answer (concat (take k pieces)) c.loop-piece.invariant.stands);
      subject = c.in-Ok.ensures.subject ∙ c.loop-piece.invariant.subject;
    }

pub certificate_memory-requires-in-Err-finish : goal.certificate_memory-requires-in-Err-finish
certificate_memory-requires-in-Err-finish c =
    let pieces = c.args.pieces.now in
    let text = concat (take c.loop-piece.piece-index pieces) in
    let all = ap concat (take_all c.loop-piece.piece-index pieces c.loop-piece-test.false) in
    finish_memory c.args.scoped.now.file text c.in-Err-finish.fault
    (subst (λ (s : Subject). IsExactCheck s text (Err c.in-Err-finish.fault)) c.loop-piece.invariant.subject
    (c.in-Err-finish.ensures.exact text c.loop-piece.invariant.stands))
    (subst (λ (t : List ℕ). IsCertified c.args.scoped.now.file t) (sym all) c.requires)

pub loop-piece-init : goal.loop-piece-init
loop-piece-init c = record {
  stands = c.new-checker.ensures.stands;
  subject = c.new-checker.ensures.subject ∙ ap (λ (l : Limits). claiming Safe c.args.scoped.now.file l.line_bytes) c.narrow.ensures;
}

pub returns-in-Ok-finish : goal.returns-in-Ok-finish
returns-in-Ok-finish c =
    let here = c.loop-piece.invariant in
    let text = concat (take c.loop-piece.piece-index c.args.pieces.now) in
    let numbers = c.in-Ok-finish.accepted.patterns in
    let all = ap concat (take_all c.loop-piece.piece-index c.args.pieces.now c.loop-piece-test.false) in
    subst (λ (t : List ℕ). CertificateFor (claiming Safe c.args.scoped.now.file narrow.line_bytes) t numbers) all
    (subst (λ (s : Subject). CertificateFor s text numbers) here.subject (c.in-Ok-finish.ensures.answer text here.stands))

pub finish-requires : goal.finish-requires
finish-requires c = inr (_, c.loop-piece.invariant.stands)

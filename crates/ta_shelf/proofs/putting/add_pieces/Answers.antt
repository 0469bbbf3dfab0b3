use Rattle.ta_shelf.proofs.Common.{take_all}
use Rattle.ta_shelf.proofs.ShellCommon.{◌≡◌, ◌∙◌, ◌++◌, List, ℕ, ap, append-nil, concat, refl, sym, take, added, puts}
use Rattle.ta_shelf.proofs.OutputCalls.{added_more, grown_more, refused_adding}
use Rattle.ta_shelf.proofs.putting.add_pieces.Goals as goal

pub returns-in-Err-clause-log : goal.returns-in-Err-clause-log
returns-in-Err-clause-log g c =
    let here = c.loop-piece.invariant in
    refused_adding (g.S.Shelf.stage_name c.args.stage.now) _ _ _ _ _ _ here.log here.named c.in-Err.ensures.log

pub loop-piece-preserved : goal.loop-piece-preserved
loop-piece-preserved g c =
    let here = c.loop-piece.invariant in
    record {
      named = c.in-Ok.ensures.named ∙ here.named;
      bytes = added_more _ c.args.pieces.now c.loop-piece.piece-index c.piece-item.result _ _ here.bytes c.loop-piece-test.true (sym c.piece-item.is)
          (rw (c.as_bytes.ensures.value, c.as_str.ensures) at c.in-Ok.ensures.added);
      log = grown_more (g.S.Shelf.stage_name c.args.stage.now) c.args.pieces.now c.loop-piece.piece-index c.piece-item.result _ _ _ here.log
          c.loop-piece-test.true (sym c.piece-item.is) (rw (c.as_bytes.ensures.value, c.as_str.ensures, here.named) at c.in-Ok.ensures.log);
      calm = c.in-Ok.ensures.cause ∙ here.calm;
      kept = c.in-Ok.ensures.kept ∙ here.kept;
    }

pub loop-piece-init : goal.loop-piece-init
loop-piece-init g c = record {
  named = refl;
  bytes = sym (append-nil (g.S.Shelf.stage_bytes c.args.stage.now));
  log = sym (append-nil (g.S.Shelf.calls c.args.shelf.now));
  calm = refl;
  kept = refl;
}

pub returns-clause-bytes : goal.returns-clause-bytes
returns-clause-bytes g c =
    let all : take c.loop-piece.piece-index c.args.pieces.now ≡ c.args.pieces.now = take_all _ _ c.loop-piece-test.false in
    c.loop-piece.invariant.bytes ∙ ap (λ (pieces : List (List ℕ)). g.S.Shelf.stage_bytes c.args.stage.now ++ concat pieces) all

pub returns-clause-log : goal.returns-clause-log
returns-clause-log g c =
    let name = g.S.Shelf.stage_name c.args.stage.now in
    let all : take c.loop-piece.piece-index c.args.pieces.now ≡ c.args.pieces.now = take_all _ _ c.loop-piece-test.false in
    record {
      made = added name c.args.pieces.now;
      grown = c.loop-piece.invariant.log
          ∙ ap (λ (pieces : List (List ℕ)). g.S.Shelf.calls c.args.shelf.now ++ puts (added name pieces)) all;
      such = (c.args.pieces.now, refl, refl);
    }

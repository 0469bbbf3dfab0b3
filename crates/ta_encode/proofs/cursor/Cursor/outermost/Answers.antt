use Rattle.ta_encode.proofs.CursorCommon.{◌∙◌, ap, refl, take}
use Rattle.ta_encode.proofs.FramesShared.{outermost_inside}
use Rattle.ta_encode.proofs.cursor.Cursor.outermost.Goals as goal

pub returns : goal.returns
returns g c = λ s within.
    let n = c.lengths_at-length.result.0 in
    let m = c.lengths_at-length.result.1 in
    outermost_inside s c.args.self.now _ c.args.outer n m within.1.words within.1.inside c.lengths_at-length.ensures (record {
      start = refl;
      word = c.truncate.ensures.items ∙ ap (take n) (c.in_ok-facts.ensures.items ∙ c.as_slice.ensures.value);
      bounds = c.truncate-2.ensures.items ∙ ap (take m) (c.in_ok-bounds.ensures.items ∙ c.as_slice-2.ensures.value);
      frames = c.in_ok-frames.ensures.items ∙ ap (take c.args.outer) c.deref.ensures.value;
    })

use Rattle.ta_encode.proofs.Common.{◌≡◌, ◌++◌, ◌∷◌, [], refl, arith, length, length-append, ap}
use Rattle.ta_encode.proofs.FramesKept.{reopened}
use Rattle.ta_encode.proofs.cursor.Cursor.pop_frame.Goals as goal

pub returns : goal.returns
returns g c = λ s words inside.
    let cursor = c.args.self.now in
    let f = c.in_ok-frame.frame in
    let frames : cursor.frames.items ≡ c.pop.new.self.items ++ f ∷ [] = c.in_ok-frame.ensures.items in
    let back = reopened s cursor _ words f inside (record {
      start = refl;
      frames = frames;
      word = c.truncate.ensures.items;
      bounds = c.truncate-2.ensures.items;
    }) in
    (back.rest, back.left, back.within, back.split, omega (arith, ap length frames, length-append c.pop.new.self.items (f ∷ [])))

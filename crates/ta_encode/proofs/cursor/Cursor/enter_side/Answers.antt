use Rattle.ta_encode.proofs.Common.{Splits}
use Rattle.ta_encode.proofs.CursorCommon.{◌≡◌, ◌++◌, ◌∷◌, [], refl, sym, rules, length, FitsSigned, w128, to_z-of_z, append-nil}
use Rattle.ta_encode.proofs.FramesParts.{opened_side}
use Rattle.ta_encode.proofs.cursor.Cursor.enter_side.Goals as goal

pub returns : goal.returns
returns g c = λ s w words within split.
    let side = c.side_of.result in
    let fits : FitsSigned w128 c.args.floor = search rules in
    let floor = to_z-of_z w128 c.args.floor fits in
    let frames : c.push.new.self.items ≡ c.args.self.now.frames.items
    ++ record {
      inner = Splits c.args.unknown c.args.floor;
      length = length c.args.self.now.facts.items;
      bounds = length c.args.self.now.bounds.items;
      next
          = c.args.number;
    } ∷ [] = cc (c.in_ok-push.ensures.items, c.len.ensures, c.len-2.ensures) in
    let bounds : c.push-2.new.self.items ≡ c.args.self.now.bounds.items
    ++ record { unknown = c.args.unknown; floor = c.args.floor; side = side } ∷ [] = cc (c.in_ok-push-2.ensures.items) in
    opened_side s c.args.self.now _ w words c.args.number c.args.unknown c.args.floor side within (record {
      start = refl;
      frames = frames;
      elements = refl;
      marks = refl;
      more_word = [];
      word = sym (append-nil c.args.self.now.facts.items);
      more_bounds = record { unknown = c.args.unknown; floor = c.args.floor; side = side } ∷ [];
      bounds = bounds;
    }) split refl bounds c.side_of.ensures

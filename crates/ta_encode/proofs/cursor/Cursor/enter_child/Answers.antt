use Rattle.ta_encode.proofs.Common.{Asks}
use Rattle.ta_encode.proofs.CursorCommon.{◌≡◌, ◌++◌, ◌∷◌, [], refl, sym, reverse, subst, length, append-nil, List, None, slice_get, answered, ask_node}
use Rattle.ta_encode.proofs.CursorCommon.{IsAnswer}
use Rattle.ta_encode.proofs.FramesParts.{opened_child, no_child_left}
use Rattle.ta_encode.proofs.cursor.Cursor.enter_child.Goals as goal

pub returns-in_default : goal.returns-in_default
returns-in_default g c = λ w words within.
    let s = g.T.Tree.search c.args.tree.now in
    let cursor = c.args.self.now in
    let none = subst (λ (es : List g.row.F.Denot). slice_get (answered s cursor.start (reverse es) (ask_node c.args.ask)) c.args.number ≡ None)
    c.as_slice.ensures.value c.in_default.ensures in
    (no_child_left s cursor w words c.args.ask c.args.number within none, refl {a = cursor})

pub returns : goal.returns
returns g c = λ w words within.
    let s = g.T.Tree.search c.args.tree.now in
    let cursor = c.args.self.now in
    let fact = c.in-Some.fact in
    let is = subst (λ (es : List g.row.F.Denot). IsAnswer s cursor.start (reverse es) (ask_node c.args.ask) c.args.number fact) c.as_slice.ensures.value
    c.in-Some.ensures in
    let frames : c.push.new.self.items ≡ cursor.frames.items
    ++ record { inner = Asks c.args.ask; length = length cursor.facts.items; bounds = length cursor.bounds.items; next = c.args.number } ∷ [] = cc
    (c.in_ok-push.ensures.items, c.len.ensures, c.len-2.ensures) in
    opened_child s cursor (record { start = cursor.start; facts = c.push-2.new.self; bounds = cursor.bounds; frames = c.push.new.self }) w words c.args.ask
    c.args.number fact within (record {
      start = refl;
      frames = frames;
      elements = refl;
      marks = refl;
      more_word = fact ∷ [];
      word = c.in_ok-push-2.ensures.items;
      more_bounds = [];
      bounds = sym (append-nil cursor.bounds.items);
    }) c.in_ok-push-2.ensures.items refl is.is is.more

use Rattle.ta_rest.proofs.Common.{inl, refl, arith, ap, ◌∙◌, ◌≡◌, length, events_below}
use Rattle.ta_rest.proofs.endings.ending_events.Goals as goal

pub returns-in_ok-push-in-Some : goal.returns-in_ok-push-in-Some
returns-in_ok-push-in-Some c =
    let count : c.len.result ≡ length c.pop.new.self.items = omega (arith, c.len.ensures, c.pop.new.self.ok) in
    inl (record {
      front = c.pop.new.self.items;
      last = c.in-Some.last;
      moved = record { name = c.in-Some.last.name; after = c.mask_below-after.result; condition = c.in-Some.last.condition };
      was = c.in-Some.ensures.items;
      is = c.in_ok-push-in-Some.ensures.items;
      name = refl;
      condition = refl;
      after = c.mask_below-after.ensures ∙ ap events_below count;
    })

-- The names that the proofs of this crate cite, passed on from one place. Declares nothing.
pub use Rattle.std.proofs.Common.{Bool, IfNone, IfSome, IsBitSet, List, None, Ok, Option, Some, ap, arith, false, get_or, is_some, length, not, pos, subst, sym}
pub use Rattle.std.proofs.Common.{true, ℕ, ℤ, ◌<◌, ◌∙◌, ◌≡◌}
pub use Rattle.std.proofs.lemmas.Option.{IfSome_then, same_Some}
pub use Rattle.ta_automaton.specs.Places.{location_place}
pub use Rattle.ta_automaton.specs.Runs.{Holds, HoldsAt}
pub use Rattle.ta_counter.specs.Checks.{FirstFalse}
pub use Rattle.ta_counter.specs.Configs.{IsOf, config_of}
pub use Rattle.ta_linear.specs.Values.{point_of}
pub use Rattle.ta_pattern.specs.Events.{EventAnswer, TellsEvent}

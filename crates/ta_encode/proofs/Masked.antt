-- tests of bits in code, and numbers that pass
use Rattle.ta_encode.proofs.Common.{◌≡◌, ℕ, ◌<◌, List, length, get_or, subst, arith, sym, Rises, rises_at, Automaton}

pub initial_within : (a : Automaton) (items : List ℕ) (i d : ℕ) → items ≡ a.initial → i < length items → get_or items i d < 128
initial_within a items i d e b =
    let within : get_or items i d < length a.locations = rises_at 0 (length a.locations) items i d
    (subst (Rises 0 (length a.locations)) (sym e) a.shape.initial_rises) b in
    omega (arith, a.shape.limits.locations_limit)

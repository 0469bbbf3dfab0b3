-- the words of a claim, whichever claim it is
use Rattle.ta_rest.proofs.Common.{IsNarrow, BoundsWithin, prefix_fewer}
use Rattle.ta_rest.proofs.ClaimCommon.{◌≡◌, ℕ, ◌^◌, ◌≤◌, List, [], length, slice_get, Some, arith, refl, Automaton, File, Pattern, Element, LegalWord}
use Rattle.ta_rest.proofs.ClaimCommon.{is_complete, Comes, Pending, IsSmall, System, PatternOver, SystemAt, all_starts, meanings, few_rows, few_unknowns}
use Rattle.ta_rest.proofs.ClaimCommon.{small_of, search_for, Claim, Safe, RestSafe, ap, sym, Bool, true, false, pattern_search, rest_search, children, ◌∷◌}
use Rattle.ta_rest.proofs.ClaimCommon.{Extend, TellsMayAsk, not}
use Rattle.std.specs.Option.{is_some}
use Rattle.ta_encode.specs.Search.{Search}
use Rattle.ta_encode.proofs.Asking.{IsOfWords, asked_at_open, none_at_complete}
use Rattle.ta_encode.proofs.SystemsExist.{word_system}
use Rattle.ta_rest.proofs.RestSystems.{rest_word_system}
use Rattle.ta_rest.proofs.PatternWords.{comes_legal}
use Rattle.ta_rest.proofs.RestRows.{rest_comes, rest_few}

-- its search begins with a word for each start set
pub claim_roots : (claim : Claim) (a : Automaton) (p : Pattern) (pairs : List (ℕ × ℕ)) → (search_for claim a p pairs).roots ≡ all_starts a
claim_roots Safe a p pairs = refl
claim_roots RestSafe a p pairs = refl

-- whether Extend asks at a word, in a search of which it alone asks
word_extends : (s : Search Element) (start : ℕ) (past : List Element) (complete r : Bool) (es : List Element) → IsOfWords s start past complete es
    → r ≡ complete → TellsMayAsk s start past Extend (not r)
word_extends s start past complete true es h is = none_at_complete s start past complete es h (sym is) Extend
word_extends s start past complete false es h is = ap is_some (asked_at_open s start past complete es h (sym is))

pub claim_extends : (claim : Claim) (a : Automaton) (p : Pattern) (pairs : List (ℕ × ℕ)) (start : ℕ) (past : List Element) (r : Bool) → r ≡ is_complete p past
    → TellsMayAsk (search_for claim a p pairs) start past Extend (not r)
claim_extends Safe a p pairs start past r is = word_extends (pattern_search a p pairs) start past (is_complete p past) r (children a p pairs start past)
    (λ n. refl) is
claim_extends RestSafe a p pairs start past r is = word_extends (rest_search a p) start past (is_complete p past) r (children a p [] start past) (λ n. refl) is

pub claim_unknowns : (claim : Claim) (a : Automaton) (p : Pattern) (pairs : List (ℕ × ℕ)) (start : ℕ) (past : List Element)
    → (search_for claim a p pairs).unknowns start past ≡ length (meanings a p start past)
claim_unknowns Safe a p pairs start past = refl
claim_unknowns RestSafe a p pairs start past = refl

-- a word that is longer has no fewer
pub claim_grows : (claim : Claim) (a : Automaton) (p : Pattern) (pairs : List (ℕ × ℕ)) (start : ℕ) (past : List Element) (e : Element)
    → (search_for claim a p pairs).unknowns start past ≤ (search_for claim a p pairs).unknowns start (e ∷ past)
claim_grows Safe a p pairs start past e = prefix_fewer a p start past (e ∷ [])
claim_grows RestSafe a p pairs start past e = prefix_fewer a p start past (e ∷ [])

-- a word to which it comes is legal
pub claim_legal : (claim : Claim) (a : Automaton) (p : Pattern) (pairs : List (ℕ × ℕ)) (start : ℕ) (past : List Element)
    → Comes (search_for claim a p pairs) start past → LegalWord a p start past
claim_legal Safe a p pairs start past c = (comes_legal a p pairs start past c).legal
claim_legal RestSafe a p pairs start past c = (comes_legal a p [] start past (rest_comes a p start past c)).legal

rows_few : (claim : Claim) (a : Automaton) → IsNarrow a → (p : Pattern) (pairs : List (ℕ × ℕ)) (start : ℕ) (past : List Element) → PatternOver a p
    → LegalWord a p start past
    → length ((search_for claim a p pairs).rows start past) ≤ 2640
rows_few Safe a narrow p pairs start past over legal = omega (arith, few_rows a narrow p start past over legal)
rows_few RestSafe a narrow p pairs start past over legal = rest_few a narrow p start past over legal

-- its system has few unknowns and rows
pub claim_small : (claim : Claim) (a : Automaton) → IsNarrow a → (p : Pattern) (pairs : List (ℕ × ℕ)) (w : Pending Element) (s : System) → PatternOver a p
    → LegalWord a p w.start w.past → SystemAt (search_for claim a p pairs) w s → IsSmall w.bounds s
claim_small claim a narrow p pairs w s over legal is =
    small_of (search_for claim a p pairs) w s (omega (arith, claim_unknowns claim a p pairs w.start w.past, few_unknowns a narrow p w.start w.past over legal))
    (rows_few claim a narrow p pairs w.start w.past over legal) is

-- each word of a pattern of a file, with few enough unknowns, has a system
pub claim_system : (claim : Claim) (file : File) (number : ℕ) (p : Pattern) (pairs : List (ℕ × ℕ)) (w : Pending Element)
    → slice_get file.patterns number ≡ Some p → length (meanings file.automaton p w.start w.past) ≤ 2 ^ 32
    → BoundsWithin ((search_for claim file.automaton p pairs).unknowns w.start w.past) w.bounds → (system : System)
    × SystemAt (search_for claim file.automaton p pairs) w system
claim_system Safe file number p pairs w at few bounds = word_system file number p pairs w at few bounds
claim_system RestSafe file number p pairs w at few bounds = rest_word_system file number p w at few bounds

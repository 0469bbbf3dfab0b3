-- the proofs of a claim show it
use Rattle.ta_rest.proofs.Common.{after_earlier, pattern_within, ComeAfterEarlier}
use Rattle.ta_rest.proofs.ClaimCommon.{◌≡◌, ℕ, ◌+◌, length, slice_get, Some, File, Pattern, ProofsShowClaims, Safe, RestSafe}
use Rattle.ta_encode.proofs.Theorems.{safety}
use Rattle.ta_rest.proofs.Resting.{refuted_rests}

-- the events of a file's pattern come after events of lower numbers alone
pub come_after : (file : File) (number : ℕ) (p : Pattern) → slice_get file.patterns number ≡ Some p → ComeAfterEarlier p
come_after file number p at = after_earlier (length file.automaton.parameters + length file.automaton.shared + length file.automaton.locations)
    (length file.automaton.locations) p (pattern_within file number p at)

pub proofs_show : ProofsShowClaims
proofs_show Safe file number p at may loops pairs good trees proof = safety file number p at loops pairs good trees proof
proofs_show RestSafe file number p at may loops pairs good trees proof = refuted_rests file.automaton p (come_after file number p at) may loops trees proof

-- at a word with which a search begins, that word is left
use Rattle.ta_encode.proofs.CursorCommon.{◌≡◌, inl, ℕ, List, [], ◌∷◌, length, reverse, sym, ap, refl, subst, in_at, Pending, Search, BeginsAtWord, Comes}
use Rattle.ta_encode.proofs.CursorCommon.{Cursor, here, node_at, all_behind, FramesFit, IsAtRoot, IsWord, Within, BeginsWithin}

pub comes_first : {E : Type 0} (s : Search E) (start : ℕ) (past : List E) → BeginsAtWord s start past → Comes s start past
comes_first s start [] b = b
comes_first s start (e ∷ past) b = inl b

-- where no node is open, no word comes behind
pub at_word : {E : Type 0} (s : Search E) (c : Cursor E) (w : Pending E) → IsAtRoot c w → IsWord s w → Within s c (w ∷ [])
at_word {E} s c w is word =
    let none : [] ≡ reverse c.frames.items = sym (ap reverse is.frames) in
    record {
      words = [];
      inside = record {
        frames = subst (FramesFit s c (here c) (length c.facts.items) (length c.bounds.items)) none tt;
        left = ap (all_behind s c) none;
      };
      word = subst (IsWord s) (sym is.here) word;
      left = ap (λ (v : Pending E). v ∷ []) (sym is.here);
    }

pub begins_within : (E : Type 0) → BeginsWithin E
begins_within E s c number start at is =
    let w = node_at start [] [] in
    at_word s c w is (record { comes = (w, in_at s.roots number w at, refl, refl); bounds = tt })

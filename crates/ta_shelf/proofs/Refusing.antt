-- a publishing, refused or not
use Rattle.ta_shelf.proofs.ShellCommon.{◌≡◌, ℕ, List, [], ◌∷◌, Option, Some, None, Err, ap, subst, Told, WhereTold, OthersStay, HoldsEither, PublishRefused}
use Rattle.ta_shelf.proofs.ShellCommon.{PutFault, Step}
use Rattle.ta_shelf.specs.Stage.{Publishes}

-- what is said of the file and of the others, in one
either_of : (name bytes : List ℕ) (fault : PutFault) (before after : Option Told) → WhereTold (Publishes (Err fault) name bytes) before after
    → WhereTold (OthersStay name) before after → WhereTold (HoldsEither name bytes) before after
either_of name bytes fault None None held others = tt
either_of name bytes fault None (Some a) held others = absurd held
either_of name bytes fault (Some b) None held others = absurd held
either_of name bytes fault (Some b) (Some a) held others = record { either = held; others = others }

pub refused_publish : (name bytes : List ℕ) (before after : Option Told) (fault : PutFault) {own : List ℕ} → own ≡ name
    → WhereTold (Publishes (Err fault) own bytes) before after → WhereTold (OthersStay own) before after
    → PublishRefused name bytes before after (record { name = own; step = Step.Publish; bytes = []; answer = Err fault } ∷ [])
refused_publish name bytes before after fault {own} is held others =
    record {
      why = fault;
      call = ap (λ (n : List ℕ). record { name = n; step = Step.Publish; bytes = []; answer = Err fault } ∷ []) is;
      held = subst (λ (n : List ℕ). WhereTold (HoldsEither n bytes) before after) is (either_of own bytes fault before after held others);
    }

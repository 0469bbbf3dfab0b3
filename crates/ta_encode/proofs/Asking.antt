-- what may be asked
use Rattle.ta_encode.proofs.Common.{◌≡◌, ◌∙◌, sym, refl, ap, subst, cond, false≢true, ℕ, List, Bool, true, false, None, Some, Option, Node, In, Search, MayAsk}
use Rattle.ta_encode.proofs.Common.{Answers, asked, answered, all_or_none, only_extend, [], Automaton, Pattern, Element, is_complete, pattern_search}
unfoldable use Rattle.ta_words.specs.Words.{children}
use Rattle.std.specs.Option.{is_some}
use Rattle.ta_base.specs.Lists.{Distinct}
use Rattle.ta_cert.specs.declared.line.Node.TheVariants as node

-- what may be asked has answers
pub none_asked : {E : Type 0} (s : Search E) (start : ℕ) (past : List E) (n : Node) → MayAsk s start past n → asked s start past n ≡ None → ⊥
none_asked s start past n may none = false≢true (sym (ap is_some none) ∙ may)

-- of a node that no other node than Extend asks, and only where it isn't complete
abbrev pub IsOfWords : {E : Type 0} → Search E → ℕ → List E → Bool → List E → Type 0
IsOfWords s start past complete es = (n : Node) → s.answers start past n ≡ only_extend complete es n

pub complete_asks_none : {E : Type 0} (complete : Bool) (es : List E) (n : Node) → complete ≡ true → only_extend complete es n ≡ None
complete_asks_none complete es node.Extend e = rw e refl
complete_asks_none complete es _ e = refl

-- at a complete word nothing may be asked
pub none_at_complete : {E : Type 0} (s : Search E) (start : ℕ) (past : List E) (complete : Bool) (es : List E) → IsOfWords s start past complete es
    → complete ≡ true → (n : Node) → asked s start past n ≡ None
none_at_complete s start past complete es h e (node.Leaf ts) = refl
none_at_complete s start past complete es h e (node.Split unknown floor) = refl
none_at_complete s start past complete es h e n = h n ∙ complete_asks_none complete es n e

-- at one that isn't, Extend has these answers
pub asked_at_open : {E : Type 0} (s : Search E) (start : ℕ) (past : List E) (complete : Bool) (es : List E) → IsOfWords s start past complete es
    → complete ≡ false → asked s start past node.Extend ≡ Some es
asked_at_open s start past complete es h e = h node.Extend ∙ (rw e refl)

few_answers : {E : Type 0} (complete : Bool) (es : List E) (n : Node) (e : E) → In e (all_or_none (only_extend complete es n)) → In e es
few_answers true es node.Extend e i = absurd i
few_answers false es node.Extend e i = i
few_answers complete es _ e i = absurd i

-- what answers a node is one of these
pub answers_in : {E : Type 0} (s : Search E) (start : ℕ) (past : List E) (complete : Bool) (es : List E) → IsOfWords s start past complete es
    → (n : Node) (e : E) → In e (answered s start past n) → In e es
answers_in s start past complete es h (node.Leaf ts) e i = absurd i
answers_in s start past complete es h (node.Split unknown floor) e i = absurd i
answers_in s start past complete es h n e i = few_answers complete es n e (subst (λ (o : Option (List _)). In e (all_or_none o)) (h n) i)

all_answers : {E : Type 0} (complete : Bool) (es : List E) (n : Node) → is_some (only_extend complete es n) ≡ true
    → all_or_none (only_extend complete es n) ≡ es
all_answers true es node.Extend may = absurd (false≢true may)
all_answers false es node.Extend may = refl
all_answers complete es _ may = absurd (false≢true may)

-- what may be asked has these answers
pub answers_all : {E : Type 0} (s : Search E) (start : ℕ) (past : List E) (complete : Bool) (es : List E) → IsOfWords s start past complete es → (n : Node)
    → MayAsk s start past n → answered s start past n ≡ es
answers_all s start past complete es h (node.Leaf ts) may = absurd (false≢true may)
answers_all s start past complete es h (node.Split unknown floor) may = absurd (false≢true may)
answers_all s start past complete es h n may = ap all_or_none (h n) ∙ all_answers complete es n (sym (ap is_some (h n)) ∙ may)

-- nothing may be asked at a complete word
pub closed : {E : Type 0} (s : Search E) (start : ℕ) (past : List E) (complete : Bool) (es : List E) → IsOfWords s start past complete es → complete ≡ true
    → (n : Node) → MayAsk s start past n → ⊥
closed s start past complete es h e n may = none_asked s start past n may (none_at_complete s start past complete es h e n)

-- each of these answers whatever may be asked
pub answers_each : {E : Type 0} (s : Search E) (start : ℕ) (past : List E) (complete : Bool) (es : List E) → IsOfWords s start past complete es → (e : E)
    → In e es → (n : Node) → MayAsk s start past n → In e (answered s start past n)
answers_each s start past complete es h e i n may = subst (In e) (sym (answers_all s start past complete es h n may)) i

-- where two searches have the same answers, the same may be asked
pub asked_same : {E : Type 0} (s t : Search E) (start : ℕ) (past : List E) → ((n : Node) → s.answers start past n ≡ t.answers start past n) → (n : Node)
    → asked s start past n ≡ asked t start past n
asked_same s t start past h (node.Leaf ts) = refl
asked_same s t start past h (node.Split unknown floor) = refl
asked_same s t start past h n = h n

pub answers_moved : {E : Type 0} (s t : Search E) (start : ℕ) (past : List E) (e : E) → ((n : Node) → s.answers start past n ≡ t.answers start past n)
    → Answers s start past e → Answers t start past e
answers_moved s t start past e h a = (a.0, subst (λ (o : Option (List _)). In e (all_or_none o)) (asked_same s t start past h a.0) a.1)

-- a complete word has no child, so the children of a word are what an Extend adds
pub children_answer : (a : Automaton) (p : Pattern) (pairs : List (ℕ × ℕ)) (start : ℕ) (past : List Element)
    → answered (pattern_search a p pairs) start past node.Extend ≡ children a p pairs start past
unfolding children
children_answer a p pairs start past = unless (is_complete p past) _
  where
    unless : {E : Type 0} (b : Bool) (es : List E) → all_or_none (cond b None (Some (cond b [] es))) ≡ cond b [] es
    unless true es = refl
    unless false es = refl

pub may_moved : {E : Type 0} (s t : Search E) (start : ℕ) (past : List E) → ((n : Node) → s.answers start past n ≡ t.answers start past n) → (n : Node)
    → MayAsk s start past n → MayAsk t start past n
may_moved s t start past h n may = sym (ap is_some (asked_same s t start past h n)) ∙ may

-- a word at which Extend may not ask is complete
pub settled_complete : {E : Type 0} (s : Search E) (start : ℕ) (past : List E) (complete : Bool) (es : List E) → IsOfWords s start past complete es
    → (MayAsk s start past node.Extend → ⊥) → complete ≡ true
settled_complete s start past true es h none = refl
settled_complete s start past false es h none = absurd (none (ap is_some (asked_at_open s start past false es h refl)))

-- whatever asks, no fact is twice among its answers, where none is twice among these
pub distinct_answers : {E : Type 0} (s : Search E) (start : ℕ) (past : List E) (complete : Bool) (es : List E) → IsOfWords s start past complete es
    → Distinct es → (n : Node) → Distinct (answered s start past n)
distinct_answers s start past complete es h d (node.Leaf ts) = tt
distinct_answers s start past complete es h d (node.Split unknown floor) = tt
distinct_answers s start past complete es h d n = subst (λ (o : Option (List _)). Distinct (all_or_none o)) (sym (h n)) (of complete n)
  where
    of : (c : Bool) (m : Node) → Distinct (all_or_none (only_extend c es m))
    of true node.Extend = tt
    of false node.Extend = d
    of c _ = tt

-- no other node than Extend may stand there to ask
pub only_asks : {E : Type 0} (s : Search E) (start : ℕ) (past : List E) (complete : Bool) (es : List E) → IsOfWords s start past complete es → (n : Node)
    → MayAsk s start past n → n ≡ node.Extend
only_asks s start past complete es h (node.Leaf ts) may = absurd (false≢true may)
only_asks s start past complete es h (node.Split unknown floor) may = absurd (false≢true may)
only_asks s start past complete es h node.Extend may = refl
only_asks s start past complete es h n may = absurd (none_asked s start past n may (h n))

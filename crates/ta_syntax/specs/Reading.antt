-- What the readers answer: what the parser does.
use Rattle.std.specs.Prelude.{ℕ, ◌≡◌, ◌≤◌, List, ◌∷◌, ◌++◌, Err, length}
use Rattle.ta_syntax.specs.Grammar.{IsSum, IsTerm, IsFactor, sum_kinds, term_kinds, factor_kinds, relation_kind}
use Rattle.ta_syntax.specs.PlainSums.{plain_sum, plain_term, plain_factor, sum_depth, term_depth, factor_depth}
use Rattle.ta_syntax.specs.Stated.{Offsets, IsPlaced, sum_stated, sum_term_stated, sum_factor_stated}
use Rattle.ta_syntax.specs.Faults.{kinds, SameStart, offset_of}
use Rattle.ta_syntax.specs.Productions.{Stop, wrong, many, deep, Production, nothing, parse}
use Rattle.ta_syntax.specs.FileGrammar.{factor, term_with, sum_with}
use Rattle.ta_syntax.specs.declared.tokens.Kind.{Kind}
use Rattle.ta_syntax.specs.declared.tokens.Kind.TheVariants as kind
use Rattle.ta_syntax.specs.declared.tokens.Mark.{Mark}
use Rattle.ta_syntax.specs.declared.tokens.Mark.TheVariants as mark
use Rattle.ta_syntax.specs.declared.tokens.Relation.{Relation}
use Rattle.ta_syntax.specs.declared.sums.Sign.{Sign}
use Rattle.ta_syntax.specs.declared.sums.Sign.TheVariants as sign
use Rattle.ta_syntax.specs.declared.placed.Token.{Token}
use Rattle.ta_syntax.specs.declared.fault.FileFault.{FileFault}
use Rattle.ta_syntax.specs.declared.fault.FileFault.TheVariants as fault
use Rattle.ta_syntax.specs.declared.sums.TreeSum.{TreeSum}
use Rattle.ta_syntax.specs.declared.sums.TreeTerm.{TreeTerm}
use Rattle.ta_syntax.specs.declared.sums.TreeFactor.{TreeFactor}

-- The tokens of `text` were read, at the stated offsets, and `rest` is left: to parse g there is to parse h on what is left.
pub record Step (g : Production) (tokens rest : List Token) (h : Production) (text : List Kind) (stated : List Offsets) : Type 0 where
  pub goes : parse g tokens ≡ parse h rest
  pub front : List Token
  pub split : tokens ≡ front ++ rest
  pub spelled : kinds front ≡ text
  pub placed : IsPlaced stated front

-- g was parsed
abbrev pub Took : Production → List Kind → List Offsets → List Token → List Token → Type 0
Took g text stated tokens rest = Step g tokens rest nothing text stated

-- why and where a parse stopped
abbrev pub Stopped : Type 0
Stopped = Stop × List Token

-- the fault of a parse that stopped
abbrev pub fault_of : ℕ → Stop × List Token → FileFault
fault_of end (wrong, bad) = fault.Syntax (offset_of end bad)
fault_of end (many, bad) = fault.TooMany (offset_of end bad)
fault_of end (deep, bad) = fault.TooDeep (offset_of end bad)

-- the parser stops with this fault; "out of memory" is always allowed
abbrev pub Halts : Production → ℕ → List Token → FileFault → Type 0
Halts g end tokens fault.Memory = Unit {0}
Halts g end tokens e = (stop : Stop × List Token) × (parse g tokens ≡ Err stop) × (e ≡ fault_of end stop)

-- ---- single tokens

-- the first token is of the kind, and rest follows
pub record BeginsWithKind (tokens : List Token) (k : Kind) (rest : List Token) : Type 0 where
  pub first : Token
  pub split : tokens ≡ first ∷ rest
  pub is : first.kind ≡ k

-- the first token is not that mark
abbrev pub IsOther : List Token → Mark → Type 0
IsOther tokens m = (first : Token) (rest : List Token) → tokens ≡ first ∷ rest → first.kind ≡ kind.Fixed m → ⊥

-- another token than that mark comes first, or none, and the error says so at its offset
abbrev pub IsUnexpected : ℕ → List Token → Mark → FileFault → Type 0
IsUnexpected end tokens m (fault.Syntax at) = IsOther tokens m × (at ≡ offset_of end tokens)
IsUnexpected end tokens m _ = ⊥

-- the first token is not a number
abbrev pub NoNumber : List Kind → Type 0
NoNumber (kind.Number n ∷ ks) = ⊥
NoNumber _ = Unit {0}

-- the first token is not a name
abbrev pub NoName : List Kind → Type 0
NoName (kind.Name n ∷ ks) = ⊥
NoName _ = Unit {0}

-- no name comes first, and the error says so at its offset
abbrev pub IsUnnamed : ℕ → List Token → FileFault → Type 0
IsUnnamed end tokens fault.Memory = Unit {0}
IsUnnamed end tokens (fault.Syntax at) = NoName (kinds tokens) × (at ≡ offset_of end tokens)
IsUnnamed end tokens _ = ⊥

-- the first token is no relation
abbrev pub NoRelation : List Kind → Type 0
NoRelation ks = (r : Relation) (w : List Kind) → SameStart ks (relation_kind r ∷ w) → ⊥

-- the sign before the first term: minus if a minus comes first, otherwise plus with nothing taken
abbrev pub LeadingSign : List Token → Sign → List Token → Type 0
LeadingSign tokens sign.Minus rest = BeginsWithKind tokens (kind.Fixed mark.Minus) rest
LeadingSign tokens sign.Plus rest = IsOther tokens mark.Minus × (tokens ≡ rest)

-- ---- sums

-- a factor was read in which so many parentheses may be opened
pub record TookFactor (left : ℕ) (f : TreeFactor) (tokens rest : List Token) : Type 0 where
  pub is : IsFactor (plain_factor f)
  pub shallow : factor_depth (plain_factor f) ≤ left
  pub took : Took (factor left) (factor_kinds (plain_factor f)) (sum_factor_stated f) tokens rest

-- a term was read
pub record TookTerm (left : ℕ) (t : TreeTerm) (tokens rest : List Token) : Type 0 where
  pub is : IsTerm (plain_term t)
  pub shallow : term_depth (plain_term t) ≤ left
  pub took : Took (term_with (factor left)) (term_kinds (plain_term t)) (sum_term_stated t) tokens rest

-- a sum was read
pub record TookSum (left : ℕ) (s : TreeSum) (tokens rest : List Token) : Type 0 where
  pub is : IsSum (plain_sum s)
  pub shallow : sum_depth (plain_sum s) ≤ left
  pub took : Took (sum_with (factor left)) (sum_kinds (plain_sum s)) (sum_stated s) tokens rest

-- ---- lists and blocks

-- at most so many items were read
pub record TookUpTo {A : Type 0} (limit : ℕ) (items : List A) (g : Production) (text : List Kind) (stated : List Offsets) (tokens rest : List Token) : Type 0
  where
    pub few : length items ≤ limit
    pub took : Took g text stated tokens rest

-- and at least one
pub record TookSome {A : Type 0} (limit : ℕ) (items : List A) (g : Production) (text : List Kind) (stated : List Offsets) (tokens rest : List Token) : Type 0
  where
    pub some : 1 ≤ length items
    pub few : length items ≤ limit
    pub took : Took g text stated tokens rest

-- the mark in front of what is made of an item
abbrev pub with_mark : {A B : Type 0} → B → (A → List B) → A → List B
with_mark first body x = first ∷ body x

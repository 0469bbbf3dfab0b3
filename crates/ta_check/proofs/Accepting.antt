-- Why what is accepted holds, and why a certificate is accepted.
--
-- The checker knows nothing of how a certificate was found. It reads line by line and keeps a standing: the pairs of
-- guards that have been judged, the patterns that have begun, and for the pattern at hand what its nodes still leave: words,
-- or nodes of moments in version 3. A line may follow where it refutes, splits or extends the next of these, or asks of it, and
-- a pattern may end where none is left.
-- So a whole text whose lines may follow each other is a certificate in the sense of `Certificate`: read as trees, its nodes
-- refute each word with which the pattern's search begins (`certificate_of`). Each leaf is a sum of rows that no natural
-- values meet, each split leaves out no natural value, and each extension leaves out no legal word; so no legal word of the
-- pattern has a solution (`certificate_unsolved`). A run in which the pattern occurs would give one (`Reorder` of ta_encode),
-- so there is none, and the pattern is safe (`certificates_show`). Of moments no word is spoken: each question's answers leave
-- out no run, so no run meets what is refuted (`moments_hold`).
-- The other way, the lines of a certificate follow each other, whoever wrote it (`lines_of`): the standing is computed
-- from the lines alone, and only a number that leaves the range, or memory, can stop the checker before its end.
use Rattle.ta_automaton.specs.Narrow.{IsNarrow}
use Rattle.ta_check.proofs.Common.{◌≡◌, inl, inr, ℕ, zero, suc, ◌≤◌, List, [], ◌∷◌, ◌++◌, map, length, reverse, Some, Ok, slice_get, arith, sym, ap, ◌∙◌, refl}
use Rattle.ta_check.proofs.Common.{subst, append-nil, lit≤, false≢true, reverse-reverse, AllByRecursion, Automaton, File, Pattern, Distinct, Line, Node, Order}
use Rattle.ta_check.proofs.Common.{Tree, all_preorder, IsVersion, line_text, cert_lines_text, IsWhole, text_lines, numbered_lines, unnumbered, lines_numbered}
use Rattle.ta_check.proofs.Common.{AreLater, AreWritable, AreOrders, order_lines, pair_of, proof_lines, proofs_of}
use Rattle.ta_check.proofs.Common.{version_of, AreShort, Good, Search, in_order, weaker_proof, IsJudged, MayClaim, search_for, Claim, Safe, RestSafe, ComesLast}
use Rattle.ta_check.proofs.Common.{HasVersion, Kind, Words, Moments, Subject, asking_for, claimed_with, claiming, claiming_with, fact_of, kind_of, moments_of}
use Rattle.ta_check.proofs.Common.{◌≢◌, search_of, version_for, AllClaimsHold, AllSafe, AllUnsolved, Certificate, CertificateFor, CertificatesNameOneList}
use Rattle.ta_check.proofs.Common.{CertificatesShow, ClaimsHold, MayClaimAll, MayHave, PatternUnsolved, ProvesClaim, ShowsPair, lines_of_kind}
use Rattle.ta_check.proofs.Common.{may_have, proof_number, Standing, OpensCertificate, first_standing, LeadThrough, In, each_all}
use Rattle.ta_cert.specs.declared.line.Proof.{Proof}
use Rattle.ta_automaton.proofs.Thresholds.{after_earlier, pattern_within}
use Rattle.ta_rest.proofs.QuietResting.{rest_safe_is}
use Rattle.ta_rest.specs.Quiet.{QuietRestSafe}
use Rattle.ta_rest.specs.Rest.{ComeAfterEarlier}
use Rattle.ta_moments.specs.Certified.{RefuteRoots}
use Rattle.ta_moments.specs.Refutes.{of_events, of_rest}
use Rattle.ta_moments.proofs.Certifying.{nodes_show, rest_nodes_show_so}
use Rattle.ta_moment_tree.specs.Makers.{moment_maker}
use Rattle.ta_rest.proofs.Resting.{no_pairs_good}
use Rattle.std.proofs.lemmas.Bool.{cases_order}
use Rattle.ta_automaton.specs.Runs.{InScope, LoopsPure}
use Rattle.ta_check.specs.Subjects.{ClaimHolds}
use Rattle.ta_cert.specs.declared.line.Line.TheVariants as line
use Rattle.ta_cert.proofs.CertLines.{cert_read, questions_read}
use Rattle.ta_encode.specs.Refutes.{IsLeaf, ProofBy}
use Rattle.ta_encode.proofs.Theorems.{no_solution, runs}
use Rattle.ta_rest.proofs.ClaimsShown.{proofs_show}
use Rattle.ta_check.proofs.Searches.{searched}
use Rattle.ta_check.proofs.Behind.{lead_proofs, standing}
use Rattle.ta_check.proofs.Heads.{OrdersBehind, heads, lead_orders}

-- a proof of what is judged
leaves_proof : {E : Type 0} (search : Search E) (trees : List Tree) → ProofBy search (IsJudged search) trees → ProofBy search (IsLeaf search) trees
leaves_proof search trees proves = weaker_proof (IsJudged search) (IsLeaf search) (λ w ts judged. judged.leaf) search trees proves

-- the pattern that is proved
record Proven (kind : Kind) (subject : Subject) (pairs : List (ℕ × ℕ)) (numbered : ℕ × List Tree) : Type 0 where
  pub pattern : Pattern
  pub named : slice_get subject.file.patterns numbered.0 ≡ Some pattern
  pub proof : ProofBy (search_of kind subject pairs pattern) (IsLeaf (search_of kind subject pairs pattern)) numbered.1

proven : (kind : Kind) (subject : Subject) (pairs : List (ℕ × ℕ)) (q : ℕ × List Tree) → ProvesClaim kind subject pairs q → Proven kind subject pairs q
proven kind subject pairs q one =
    let found = searched kind subject pairs q.0 one.search one.searched in
    record {
      pattern = found.pattern;
      named = found.named;
      proof = subst (λ (s : Search (fact_of kind)). ProofBy s (IsLeaf s) q.1) (sym found.is) (leaves_proof one.search q.1 one.proves);
    }

-- what may be claimed of each pattern may be of that of a number
may_of : (claim : Claim) (ps : List Pattern) (k : ℕ) (p : Pattern) → AllByRecursion (MayClaim claim) ps → slice_get ps k ≡ Some p → MayClaim claim p
may_of claim [] k p may named = absurd (cc)
may_of claim (q ∷ ps) zero p may named = let same : q ≡ p = cc in subst (MayClaim claim) same may.0
may_of claim (q ∷ ps) (suc k) p may named = may_of claim ps k p may.1 named

-- what is proved of words holds
words_hold : (claim : Claim) (silent : List ℕ) (orders : List Order) (file : File) (number : ℕ) (p : Pattern) → may_have Words claim silent orders
    → slice_get file.patterns number ≡ Some p → MayClaim claim p → LoopsPure file.automaton → (pairs : List (ℕ × ℕ)) → Good file.automaton pairs
    → (trees : List Tree) → ProofBy (search_for claim file.automaton p pairs) (IsLeaf (search_for claim file.automaton p pairs)) trees
    → claimed_with claim silent file.automaton p
words_hold Safe silent orders file number p have named may loops pairs good trees proof = proofs_show Safe file number p named may loops pairs good trees proof
words_hold RestSafe [] orders file number p have named may loops pairs good trees proof = proofs_show RestSafe file number p named may loops pairs good trees
    proof
words_hold RestSafe (place ∷ silent) orders file number p have named may loops pairs good trees proof = absurd have

-- quiet rest is rest where no place is silent
quietly : (silent : List ℕ) (a : Automaton) (p : Pattern) → QuietRestSafe a silent p → claimed_with RestSafe silent a p
quietly [] a p safe = (rest_safe_is a p).1 safe
quietly (place ∷ silent) a p safe = safe

-- the events of a file's pattern come after earlier ones
early : (file : File) (number : ℕ) (p : Pattern) → slice_get file.patterns number ≡ Some p → ComeAfterEarlier p
early file number p named = after_earlier _ _ p (pattern_within file number p named)

-- what is proved of moments holds
moments_hold : (claim : Claim) (silent : List ℕ) (file : File) (number : ℕ) (p : Pattern) → slice_get file.patterns number ≡ Some p → MayClaim claim p
    → LoopsPure file.automaton → (nodes : List Node) → RefuteRoots (moments_of file.automaton p (asking_for claim silent)) nodes
    → claimed_with claim silent file.automaton p
moments_hold Safe silent file number p named may loops nodes refute = nodes_show file number p named loops (moment_maker file.automaton p of_events) nodes
    refute
moments_hold RestSafe silent file number p named may loops nodes refute = quietly silent file.automaton p
    (rest_nodes_show_so file.automaton p (early file number p named) may loops silent (moment_maker file.automaton p (of_rest silent)) nodes refute)

-- what is proved holds
proof_holds : (kind : Kind) (subject : Subject) (orders : List Order) (number : ℕ) (p : Pattern) → MayHave kind subject orders
    → slice_get subject.file.patterns number ≡ Some p → MayClaim subject.claim p → LoopsPure subject.file.automaton → (pairs : List (ℕ × ℕ))
    → Good subject.file.automaton pairs → (trees : List Tree) → ProofBy (search_of kind subject pairs p) (IsLeaf (search_of kind subject pairs p)) trees
    → claimed_with subject.claim subject.silent subject.file.automaton p
proof_holds Words subject orders number p have named may loops pairs good trees proof = words_hold subject.claim subject.silent orders subject.file number p
    have named may loops pairs good trees proof
proof_holds Moments subject orders number p have named may loops pairs good trees proof =
    moments_hold subject.claim subject.silent subject.file number p named may loops (all_preorder trees)
    ((in_order IsLeaf (search_of Moments subject pairs p) (all_preorder trees)).1 (trees, proof, refl))

each_holds : (kind : Kind) (subject : Subject) (orders : List Order) (pairs : List (ℕ × ℕ)) (proofs : List (ℕ × List Tree)) → MayHave kind subject orders
    → MayClaimAll subject → LoopsPure subject.file.automaton → Good subject.file.automaton pairs → AllByRecursion (ProvesClaim kind subject pairs) proofs
    → AllClaimsHold subject (map proof_number proofs)
each_holds kind subject orders pairs [] have may loops good prove = tt
each_holds kind subject orders pairs (q ∷ qs) have may loops good prove =
    let one = proven kind subject pairs q prove.0 in (
      record {
        pattern = one.pattern;
        named = one.named;
        safe = proof_holds kind subject orders q.0 one.pattern have one.named (may_of subject.claim subject.file.patterns q.0 one.pattern may one.named) loops
            pairs good q.1 one.proof;
      },
      each_holds kind subject orders pairs qs have may loops good prove.1,
    )

-- what is claimed of a certificate's patterns holds
pub claims_hold : ClaimsHold
claims_hold subject text numbers may loops c = subst (AllClaimsHold subject) (sym c.named)
    (each_holds c.kind subject c.orders (map pair_of c.orders) c.proofs c.ordered may loops c.good c.prove)

-- that patterns are safe may be claimed of all
pub may_be_safe : (file : File) (silent : List ℕ) (limit : ℕ) → MayClaimAll (claiming_with Safe file silent limit)
may_be_safe file silent limit = each file.patterns
  where
    each : (ps : List Pattern) → AllByRecursion (MayClaim Safe) ps
    each [] = tt
    each (p ∷ ps) = (tt, each ps)

-- that they are safe at rest, of those that have events
pub may_rest : (file : File) (silent : List ℕ) (limit : ℕ) → AllByRecursion ComesLast file.patterns
    → MayClaimAll (claiming_with RestSafe file silent limit)
may_rest file silent limit last = each file.patterns last
  where
    each : (ps : List Pattern) → AllByRecursion ComesLast ps → AllByRecursion (MayClaim RestSafe) ps
    each [] last = tt
    each (p ∷ ps) last = (last.0.some, each ps last.1)

-- the patterns of a certificate that they are safe are so
certificate_safe : (file : File) (limit : ℕ) (text numbers : List ℕ) → LoopsPure file.automaton → Certificate file limit text numbers → AllSafe file numbers
certificate_safe file limit text numbers loops c = claims_hold (claiming Safe file limit) text numbers (may_be_safe file [] limit) loops c

-- no word of what is proved that is legal under the pairs has a solution
each_unsolved : (file : File) (limit : ℕ) (pairs : List (ℕ × ℕ)) (proofs : List (ℕ × List Tree))
    → AllByRecursion (ProvesClaim Words (claiming Safe file limit) pairs) proofs → AllByRecursion (PatternUnsolved file pairs) (map proof_number proofs)
each_unsolved file limit pairs [] prove = tt
each_unsolved file limit pairs (q ∷ qs) prove =
    let one = proven Words (claiming Safe file limit) pairs q prove.0 in (
      record {
        pattern = one.pattern;
        named = one.named;
        none = λ start below word values. no_solution file.automaton one.pattern pairs q.1 one.proof start below
            word values;
      },
      each_unsolved file limit pairs qs prove.1,
    )

-- where a solution gives a run, no legal word of a safe pattern has one
safe_unsolved : (file : File) (numbers : List ℕ) → InScope file.automaton → AllSafe file numbers → AllUnsolved file numbers
safe_unsolved file [] scope safe = tt
safe_unsolved file (n ∷ ns) scope safe =
    let one = safe.0 in (
      record {
        pattern = one.pattern;
        named = one.named;
        none = λ start below word values solved.
            (let run = runs file n one.pattern one.named scope start word values solved in one.safe run.first run.rules run.occurs);
      },
      safe_unsolved file ns scope safe.1,
    )

-- a certificate shows these
pub certificates_show : CertificatesShow
certificates_show file limit text numbers loops c =
    let pairs = map pair_of c.orders in
    let subject = claiming Safe file limit in
    let safe = certificate_safe file limit text numbers loops c in
    record {
      safe = safe;
      unsolved = λ words. subst (λ (ks : List ℕ). AllByRecursion (PatternUnsolved file pairs) ks) (sym c.named)
          (each_unsolved file limit pairs c.proofs (subst (λ (kind : Kind). AllByRecursion (ProvesClaim kind subject pairs) c.proofs) words c.prove));
      none_solved = λ scope. safe_unsolved file numbers scope safe;
    }

-- silent places say nothing where patterns are claimed to be safe
all_safe : (file : File) (silent numbers : List ℕ) → AllByRecursion (ClaimHolds Safe file silent) numbers → AllSafe file numbers
all_safe file silent [] hold = tt
all_safe file silent (n ∷ ns) hold = (record { pattern = hold.0.pattern; named = hold.0.named; safe = hold.0.safe }, all_safe file silent ns hold.1)

-- no legal word of a certificate's patterns has a solution
pub certificate_unsolved : (file : File) (silent : List ℕ) (limit : ℕ) (text numbers : List ℕ) → LoopsPure file.automaton → InScope file.automaton
    → CertificateFor (claiming_with Safe file silent limit) text numbers → AllUnsolved file numbers
certificate_unsolved file silent limit text numbers loops scope c = safe_unsolved file numbers scope
    (all_safe file silent numbers (claims_hold (claiming_with Safe file silent limit) text numbers (may_be_safe file silent limit) loops c))

-- later lines are short
short_later : (limit : ℕ) (ls : List Line) → AreLater limit ls → AreShort limit ls
short_later limit [] later = tt
short_later limit (l ∷ ls) later = (later.1, short_later limit ls later.4)

-- the version is that of the pairs
version_same : (version : ℕ) (orders : List Order) → IsVersion version → version ≤ 2 → (version ≡ 2 → map pair_of orders ≡ [] → ⊥)
    → ((orders ≡ [] → ⊥) → version ≡ 2) → version ≡ version_of orders
version_same version [] is most some second = elim (cases_order version 2) [
  | inl two ↦ absurd (some two refl)
  | inr (inl less) ↦ (let low = is.0 in omega arith)
  | inr (inr more) ↦ absurd (omega arith)
]
version_same version (o ∷ os) is most some second = second (λ e. cc)

-- no pairs where the version isn't 2
none_but_second : (version : ℕ) (orders : List Order) → (version ≡ 2 → ⊥) → ((orders ≡ [] → ⊥) → version ≡ 2) → orders ≡ []
none_but_second version [] other second = refl
none_but_second version (o ∷ os) other second = absurd (other (second (λ e. cc)))

third : (version : ℕ) → version ≡ 3 → version ≡ 2 → ⊥
third version is other = omega arith

-- the lines are those of the version's kind
lines_same : (version : ℕ) (orders : List Order) (proofs : List Proof) → IsVersion version → (version ≡ 2 → map pair_of orders ≡ [] → ⊥)
    → ((orders ≡ [] → ⊥) → version ≡ 2) → (line.Header version ∷ (order_lines orders ++ proof_lines proofs)) ≡ lines_of_kind (kind_of version) orders proofs
lines_same zero orders proofs is some second = absurd (let low = is.0 in omega arith)
lines_same (suc zero) orders proofs is some second = ap (λ (v : ℕ). line.Header v ∷ (order_lines orders ++ proof_lines proofs))
    (version_same 1 orders is (lit≤ tt) some second)
lines_same (suc (suc zero)) orders proofs is some second = ap (λ (v : ℕ). line.Header v ∷ (order_lines orders ++ proof_lines proofs))
    (version_same 2 orders is (lit≤ tt) some second)
lines_same (suc (suc (suc zero))) orders proofs is some second = ap (λ (os : List Order). line.Header 3 ∷ (order_lines os ++ proof_lines proofs))
    (none_but_second 3 orders (third 3 refl) second)
lines_same (suc (suc (suc (suc n)))) orders proofs is some second = absurd (let high = is.1 in omega arith)

-- a version that a certificate may have allows its pairs
have_rest : (version : ℕ) (silent : List ℕ) (orders : List Order) → IsVersion version → version_for RestSafe silent version → ((orders ≡ [] → ⊥) → version ≡ 2)
    → may_have (kind_of version) RestSafe silent orders
have_rest zero silent orders is has second = absurd (let low = is.0 in omega arith)
have_rest (suc zero) [] [] is has second = refl
have_rest (suc zero) [] (o ∷ os) is has second = absurd (let wrong = second (λ e. cc) in omega arith)
have_rest (suc zero) (place ∷ silent) orders is has second = absurd (let wrong = has in omega arith)
have_rest (suc (suc zero)) [] orders is (inl one) second = absurd (let wrong = one in omega arith)
have_rest (suc (suc zero)) [] orders is (inr three) second = absurd (let wrong = three in omega arith)
have_rest (suc (suc zero)) (place ∷ silent) orders is has second = absurd (let wrong = has in omega arith)
have_rest (suc (suc (suc zero))) silent orders is has second = none_but_second 3 orders (third 3 refl) second
have_rest (suc (suc (suc (suc n)))) silent orders is has second = absurd (let high = is.1 in omega arith)

have_safe : (version : ℕ) (silent : List ℕ) (orders : List Order) → IsVersion version → ((orders ≡ [] → ⊥) → version ≡ 2) → AreOrders orders
    → may_have (kind_of version) Safe silent orders
have_safe zero silent orders is second ordered = absurd (let low = is.0 in omega arith)
have_safe (suc zero) silent orders is second ordered = ordered
have_safe (suc (suc zero)) silent orders is second ordered = ordered
have_safe (suc (suc (suc zero))) silent orders is second ordered = none_but_second 3 orders (third 3 refl) second
have_safe (suc (suc (suc (suc n)))) silent orders is second ordered = absurd (let high = is.1 in omega arith)

have_pairs : (claim : Claim) (silent : List ℕ) (version : ℕ) (orders : List Order) → IsVersion version → version_for claim silent version
    → ((orders ≡ [] → ⊥) → version ≡ 2) → AreOrders orders → may_have (kind_of version) claim silent orders
have_pairs Safe silent version orders is has second ordered = have_safe version silent orders is second ordered
have_pairs RestSafe silent version orders is has second ordered = have_rest version silent orders is has second

pub words_not_third : (version : ℕ) → kind_of version ≡ Words → version ≢ 3
words_not_third version words three = let same : Moments ≡ Words = subst (λ v. kind_of v ≡ Words) three words in cc

-- the certificate that the lines behind the header are
certificate_behind : (subject : Subject) (text : List ℕ) (version : ℕ) (ls : List Line) (s : Standing) → HasVersion subject version → IsVersion version
    → length (line_text (line.Header version)) ≤ subject.line_bytes → AreLater subject.line_bytes ls
    → text ≡ cert_lines_text (line.Header version ∷ ls)
    → OrdersBehind subject version [] ls s → CertificateFor subject text (reverse s.begun)
certificate_behind subject text version ls s has is fits later written h =
    let b = h.behind in
    let none : b.nodes ≡ [] = b.none refl in
    let proofs : h.rest ≡ proof_lines (proofs_of b.proofs) = b.lines ∙ ap (λ (ns : List Node). map line.Tree ns ++ proof_lines (proofs_of b.proofs)) none in
    let lines : ls ≡ order_lines h.orders ++ proof_lines (proofs_of b.proofs) = h.lines ∙ ap (λ (xs : List Line). order_lines h.orders ++ xs) proofs in
    let named : reverse s.begun ≡ map proof_number b.proofs = ap reverse (b.begun ∙ append-nil (reverse (map proof_number b.proofs)))
    ∙ reverse-reverse (map proof_number b.proofs) in
    let all : (line.Header version ∷ ls) ≡ lines_of_kind (kind_of version) h.orders (proofs_of b.proofs) = ap (λ (xs : List Line). line.Header version ∷ xs)
    lines ∙ lines_same version h.orders (proofs_of b.proofs) is h.some h.second in
    record {
      kind = kind_of version;
      orders = h.orders;
      proofs = b.proofs;
      written = written ∙ ap cert_lines_text all;
      ordered = have_pairs subject.claim subject.silent version h.orders is has.0 h.second h.ordered;
      narrow = λ words. has.1 (words_not_third version words);
      legal = b.writable;
      short = subst (AreShort subject.line_bytes) all (fits, short_later subject.line_bytes ls later);
      shown = h.shown;
      good = h.good (no_pairs_good subject.file.automaton);
      prove = b.prove;
      named = named;
      distinct = subst (λ (ks : List ℕ). Distinct ks) (sym named) b.distinct;
    }

-- a complete text whose lines may follow each other is a certificate of the patterns that began
pub certificate_of : (subject : Subject) (text : List ℕ) (ls : List Line) (s : Standing) → IsWhole subject.line_bytes text ls
    → LeadThrough subject first_standing ls s
    → CertificateFor subject text (reverse s.begun)
certificate_of subject text [] s whole lead = absurd (false≢true whole.ended)
certificate_of subject text (line.Pattern k ∷ ls) s whole lead = absurd (false≢true whole.legal.0.2)
certificate_of subject text (line.Tree n ∷ ls) s whole lead = absurd (false≢true whole.legal.0.2)
certificate_of subject text (line.End ∷ ls) s whole lead = absurd (false≢true whole.legal.0.2)
certificate_of subject text (line.Header version ∷ ls) s whole lead =
    let form : IsVersion version = whole.legal.0.0 in
    let later = whole.legal.1 in
    let through : LeadThrough subject (standing version [] [] []) ls s = subst (λ (t : Standing). LeadThrough subject t ls s) lead.1.leads lead.2 in
    certificate_behind subject text version ls s lead.1.has form whole.legal.0.1 later whole.whole
    (heads subject version [] ls s later whole.ended through)

-- the version of a certificate of a kind
abbrev pub version_in : Kind → List Order → ℕ
version_in Words orders = version_of orders
version_in Moments orders = 3

-- the lines behind the first one lead to the end
lead_words : (subject : Subject) (orders : List Order) (proofs : List (ℕ × List Tree)) → Good subject.file.automaton (map pair_of orders)
    → AllByRecursion (ShowsPair subject.file.automaton) orders → AllByRecursion (ProvesClaim Words subject (map pair_of orders)) proofs
    → Distinct (map proof_number proofs) → (after : Standing)
    × LeadThrough subject (standing (version_of orders) [] [] []) (order_lines orders ++ proof_lines (proofs_of proofs)) after
lead_words subject [] proofs good shown prove distinct = lead_proofs subject 1 [] proofs [] (λ two. let e : 1 ≡ 2 = two in absurd (omega arith)) prove distinct
    (each_all (λ (k : ℕ). In k [] → ⊥) (map proof_number proofs) (λ k is. is))
lead_words subject (o ∷ os) proofs good shown prove distinct = lead_orders subject [] (o ∷ os) (proof_lines (proofs_of proofs)) good shown
    (lead_proofs subject 2 (map pair_of (o ∷ os)) proofs [] (λ two empty. cc) prove distinct
    (each_all (λ (k : ℕ). In k [] → ⊥) (map proof_number proofs) (λ k is. is)))

lead_moments : (subject : Subject) (orders : List Order) (proofs : List (ℕ × List Tree)) → orders ≡ []
    → AllByRecursion (ProvesClaim Moments subject (map pair_of orders)) proofs → Distinct (map proof_number proofs) → (after : Standing)
    × LeadThrough subject (standing 3 [] [] []) (proof_lines (proofs_of proofs)) after
lead_moments subject [] proofs none prove distinct = lead_proofs subject 3 [] proofs [] (λ two. let e : 3 ≡ 2 = two in absurd (omega arith)) prove distinct
    (each_all (λ (k : ℕ). In k [] → ⊥) (map proof_number proofs) (λ k is. is))
lead_moments subject (o ∷ os) proofs none prove distinct = absurd (cc)

-- pairs that a certificate may have are such pairs, and so is their version
have_orders : (claim : Claim) (silent : List ℕ) (orders : List Order) → may_have Words claim silent orders → AreOrders orders
have_orders Safe silent orders have = have
have_orders RestSafe [] [] have = tt
have_orders RestSafe [] (o ∷ os) have = absurd (cc)
have_orders RestSafe (place ∷ silent) orders have = absurd have

have_version : (kind : Kind) (claim : Claim) (silent : List ℕ) (orders : List Order) → may_have kind claim silent orders
    → version_for claim silent (version_in kind orders)
have_version Words Safe silent [] have = lit≤ tt
have_version Words Safe silent (o ∷ os) have = lit≤ tt
have_version Words RestSafe [] [] have = inl refl
have_version Words RestSafe [] (o ∷ os) have = absurd (cc)
have_version Words RestSafe (place ∷ silent) orders have = absurd have
have_version Moments Safe silent orders have = lit≤ tt
have_version Moments RestSafe [] orders have = inr refl
have_version Moments RestSafe (place ∷ silent) orders have = refl

-- lines of a certificate, read from its text, and where they lead
record Followed (subject : Subject) (kind : Kind) (orders : List Order) (proofs : List (ℕ × List Tree)) : Type 0 where
  pub read : text_lines subject.line_bytes (cert_lines_text (lines_of_kind kind orders (proofs_of proofs)))
      ≡ Ok (numbered_lines 0 (lines_of_kind kind orders (proofs_of proofs)))
  pub after : Standing
  pub lead : LeadThrough subject first_standing (lines_of_kind kind orders (proofs_of proofs)) after

followed : (kind : Kind) (subject : Subject) (orders : List Order) (proofs : List (ℕ × List Tree)) → MayHave kind subject orders
    → (kind ≡ Words → IsNarrow subject.file.automaton)
    → AreWritable (proofs_of proofs) → AreShort subject.line_bytes (lines_of_kind kind orders (proofs_of proofs))
    → Good subject.file.automaton (map pair_of orders)
    → AllByRecursion (ShowsPair subject.file.automaton) orders → AllByRecursion (ProvesClaim kind subject (map pair_of orders)) proofs
    → Distinct (map proof_number proofs) → Followed subject kind orders proofs
followed Words subject orders proofs have narrow legal short good shown prove distinct =
    let lead = lead_words subject orders proofs good shown prove distinct in
    let opens : OpensCertificate subject first_standing (version_of orders) (standing (version_of orders) [] [] []) = record
    { has = (have_version Words subject.claim subject.silent orders have, λ other. narrow refl); leads = refl } in
    record {
      read = cert_read subject.line_bytes orders (proofs_of proofs) (have_orders subject.claim subject.silent orders have) legal short;
      after = lead.0;
      lead = (standing (version_of orders) [] [] [], opens, lead.1);
    }
followed Moments subject orders proofs have narrow legal short good shown prove distinct =
    let lead = lead_moments subject orders proofs have prove distinct in
    let opens : OpensCertificate subject first_standing 3 (standing 3 [] [] []) = record
    { has = (have_version Moments subject.claim subject.silent orders have, λ other. absurd (other refl)); leads = refl } in
    record {
      read = questions_read subject.line_bytes (proofs_of proofs) legal short;
      after = lead.0;
      lead = (standing 3 [] [] [], opens, lead.1);
    }

followed_text : (subject : Subject) (text numbers : List ℕ) (c : CertificateFor subject text numbers) → Followed subject c.kind c.orders c.proofs
followed_text subject text numbers c =
    followed c.kind subject c.orders c.proofs c.ordered c.narrow c.legal c.short c.good c.shown c.prove (subst (λ
    (ks : List ℕ). Distinct ks) c.named c.distinct)

-- a certificate is read as its lines
read_text : (subject : Subject) (text numbers : List ℕ) (c : CertificateFor subject text numbers)
    → text_lines subject.line_bytes text ≡ Ok (numbered_lines 0 (lines_of_kind c.kind c.orders (proofs_of c.proofs)))
read_text subject text numbers c = ap (text_lines subject.line_bytes) c.written ∙ (followed_text subject text numbers c).read

-- and these may follow each other
pub lines_of : (subject : Subject) (text numbers : List ℕ) → CertificateFor subject text numbers
    → (ls : List Line) × (text_lines subject.line_bytes text ≡ Ok (numbered_lines 0 ls)) × (after : Standing) × LeadThrough subject first_standing ls after
lines_of subject text numbers c =
    let f = followed_text subject text numbers c in
    (lines_of_kind c.kind c.orders (proofs_of c.proofs), read_text subject text numbers c, f.after, f.lead)

-- ---- a text is a certificate of one list of patterns
-- the numbers of the patterns that lines name
numbers_in : List Line → List ℕ
numbers_in [] = []
numbers_in (line.Pattern k ∷ ls) = k ∷ numbers_in ls
numbers_in (line.Header version ∷ ls) = numbers_in ls
numbers_in (line.Tree n ∷ ls) = numbers_in ls
numbers_in (line.End ∷ ls) = numbers_in ls

nodes_name_none : (ns : List Node) (ls : List Line) → numbers_in (map line.Tree ns ++ ls) ≡ numbers_in ls
unfolding numbers_in
nodes_name_none [] ls = refl
nodes_name_none (n ∷ ns) ls = nodes_name_none ns ls

orders_name_none : (os : List Order) (ls : List Line) → numbers_in (order_lines os ++ ls) ≡ numbers_in ls
unfolding numbers_in
orders_name_none [] ls = refl
orders_name_none (o ∷ os) ls = orders_name_none os ls

proofs_name : (proofs : List (ℕ × List Tree)) → numbers_in (proof_lines (proofs_of proofs)) ≡ map proof_number proofs
unfolding numbers_in
proofs_name [] = refl
proofs_name (q ∷ qs) = ap (λ (ks : List ℕ). q.0 ∷ ks) (nodes_name_none (all_preorder q.1) (proof_lines (proofs_of qs)) ∙ proofs_name qs)

lines_name : (kind : Kind) (orders : List Order) (proofs : List (ℕ × List Tree))
    → numbers_in (lines_of_kind kind orders (proofs_of proofs)) ≡ map proof_number proofs
unfolding numbers_in
lines_name Words orders proofs = orders_name_none orders (proof_lines (proofs_of proofs)) ∙ proofs_name proofs
lines_name Moments orders proofs = proofs_name proofs

pub one_list : CertificatesNameOneList
one_list subject text ns ms c d =
    let ls = lines_of_kind c.kind c.orders (proofs_of c.proofs) in
    let ks = lines_of_kind d.kind d.orders (proofs_of d.proofs) in
    let read = sym (read_text subject text ns c) ∙ read_text subject text ms d in
    let numbered : numbered_lines 0 ls ≡ numbered_lines 0 ks = cc in
    let same : ls ≡ ks = sym (lines_numbered 0 ls) ∙ ap unnumbered numbered ∙ lines_numbered 0 ks in
    c.named ∙ sym (lines_name c.kind c.orders c.proofs) ∙ ap numbers_in same ∙ lines_name d.kind d.orders d.proofs ∙ sym d.named

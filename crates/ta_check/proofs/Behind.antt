-- lines behind the pairs of a certificate: its proofs
use Rattle.ta_check.proofs.Common.{◌≡◌, inl, inr, ℕ, ◌<◌, ◌^◌, true, List, [], ◌∷◌, ◌++◌, map, reverse, None, Some, sym, ap, ◌∙◌, refl, subst, AllByRecursion}
use Rattle.ta_check.proofs.Common.{false≢true, older_new, others, still_new, Distinct, In, Line, Node, Tree, all_preorder, IsNode, has_end, AreLater}
use Rattle.ta_check.proofs.Common.{AreWritable, proof_lines, proofs_of, Pending, Search, parts, RefutedInOrder, in_order, IsJudged, Subject, fact_of, kind_of}
use Rattle.ta_check.proofs.Common.{search_at, search_there, FactAt, ProvesClaim, proof_number, Standing, AtWord, NothingIsLeft, BeginsProof, Stands}
use Rattle.ta_check.proofs.Common.{EndsCertificate, LeadThrough, reverse_onto, none-some}
use Rattle.ta_cert.specs.declared.line.Line.TheVariants as line

-- where a certificate stands where no pair waits
abbrev pub standing : (version : ℕ) → List (ℕ × ℕ) → List ℕ → List (Pending (fact_of (kind_of version))) → Standing
standing version pairs numbers words = record { version = version; pairs = pairs; waiting = None; begun = numbers; pending = words }

-- lines behind a standing where no pair waits: nodes that refute what is pending for the newest pattern, and then proofs of other patterns
pub record Behind (subject : Subject) (s : Standing) (ls : List Line) (after : Standing) : Type 0 where
  pub nodes : List Node
  pub proofs : List (ℕ × List Tree)
  pub lines : ls ≡ map line.Tree nodes ++ proof_lines (proofs_of proofs)
  pub refute : (number : ℕ) (older : List ℕ) (p : Search (FactAt s)) → s.begun ≡ number ∷ older → search_there subject s number ≡ Some p
      → RefutedInOrder p (IsJudged p) s.pending nodes
  pub none : s.pending ≡ [] → nodes ≡ []
  pub forms : AllByRecursion IsNode nodes
  pub writable : AreWritable (proofs_of proofs)
  pub prove : AllByRecursion (ProvesClaim (kind_of s.version) subject s.pairs) proofs
  pub begun : after.begun ≡ reverse (map proof_number proofs) ++ s.begun
  pub new : AllByRecursion (λ k. In k s.begun → ⊥) (map proof_number proofs)
  pub distinct : Distinct (map proof_number proofs)

-- nothing is left
pub behind_end : (subject : Subject) (s after : Standing) → s.pending ≡ [] → after ≡ s → Behind subject s (line.End ∷ []) after
behind_end subject s after done same = record {
  nodes = [];
  proofs = [];
  lines = refl;
  refute = λ number older p begun named. done;
  none = λ e. refl;
  forms = tt;
  writable = tt;
  prove = tt;
  begun = ap (λ (t : Standing). t.begun) same;
  new = tt;
  distinct = tt;
}

-- the newest search is one
same_search : (subject : Subject) (s : Standing) (k number : ℕ) (ks older : List ℕ) (p q : Search (FactAt s)) → (k ∷ ks) ≡ (number ∷ older)
    → search_there subject s k ≡ Some p → search_there subject s number ≡ Some q → p ≡ q
same_search subject s k number ks older p q e f g =
    let same : k ≡ number = cc in
    let both : Some p ≡ Some q = sym f ∙ ap (search_there subject s) same ∙ g in
    cc

-- one more node
behind_node : (subject : Subject) (s : Standing) (node : Node) (between : Standing) (ls : List Line) (after : Standing) → IsNode node
    → Stands subject s node between → Behind subject between ls after → Behind subject s (line.Tree node ∷ ls) after
behind_node subject s node between ls after form stands b =
    let rest : Behind subject (record s { pending = parts stands.search stands.word node ++ stands.words }) ls after = subst
    (λ (t : Standing). Behind subject t ls after) stands.leads b in
    let first = stands.at in
    let refuted : RefutedInOrder stands.search (IsJudged stands.search) (stands.word ∷ stands.words) (node ∷ rest.nodes) =
    (stands.may, rest.refute first.number first.older stands.search first.begun first.searched) in
    record {
      nodes = node ∷ rest.nodes;
      proofs = rest.proofs;
      lines = ap (λ (xs : List Line). line.Tree node ∷ xs) rest.lines;
      refute = λ number older p begun named.
          subst (λ (q : Search (FactAt s)). RefutedInOrder q (IsJudged q) s.pending (node ∷ rest.nodes))
          (same_search subject s first.number number first.older older stands.search p (sym first.begun ∙ begun) first.searched named)
          (subst (λ (ws : List (Pending (FactAt s))). RefutedInOrder stands.search (IsJudged stands.search) ws (node ∷ rest.nodes)) (sym first.pending)
          refuted);
      none = λ e. let left = first.pending in absurd (cc);
      forms = (form, rest.forms);
      writable = rest.writable;
      prove = rest.prove;
      begun = rest.begun;
      new = rest.new;
      distinct = rest.distinct;
    }

-- one more proof
pub behind_pattern : (subject : Subject) (s : Standing) (number : ℕ) (between : Standing) (ls : List Line) (after : Standing) → number < 2 ^ 32
    → BeginsProof subject s number between → Behind subject between ls after → Behind subject s (line.Pattern number ∷ ls) after
behind_pattern subject s number between ls after form begins b =
    let rest : Behind subject (record s { begun = number ∷ s.begun; pending = begins.search.roots }) ls after = subst
    (λ (t : Standing). Behind subject t ls after) begins.leads b in
    let search = begins.search in
    let trees = (in_order IsJudged search rest.nodes).0 (rest.refute number s.begun search refl begins.searched) in
    record {
      nodes = [];
      proofs = (number, trees.0) ∷ rest.proofs;
      lines = ap (λ (xs : List Line). line.Pattern number ∷ xs)
          (rest.lines ∙ ap (λ (ns : List Node). map line.Tree ns ++ proof_lines (proofs_of rest.proofs)) (sym trees.2));
      refute = λ other older p begun named. begins.free.done;
      none = λ e. refl;
      forms = tt;
      writable = (record { pattern = form; nodes = subst (AllByRecursion IsNode) (sym trees.2) rest.forms }, rest.writable);
      prove = (record { search = search; searched = begins.searched; proves = trees.1 }, rest.prove);
      begun = rest.begun ∙ sym (reverse_onto number (map proof_number rest.proofs) s.begun);
      new = (begins.new, older_new number s.begun (map proof_number rest.proofs) rest.new);
      distinct = (others number s.begun (map proof_number rest.proofs) rest.new, rest.distinct);
    }

-- the end behind a standing
pub behind_last : (subject : Subject) (s next : Standing) (ls : List Line) (after : Standing) → AreLater subject.line_bytes (line.End ∷ ls)
    → EndsCertificate s next
    → LeadThrough subject next ls after → Behind subject s (line.End ∷ ls) after
behind_last subject s next ls after later ends lead =
    let last = later.3 refl in
    let rest : LeadThrough subject next [] after = subst (λ (xs : List Line). LeadThrough subject next xs after) last lead in
    subst (λ (xs : List Line). Behind subject s (line.End ∷ xs) after) (sym last) (behind_end subject s after ends.free.done (rest ∙ ends.leads))

-- lines behind the line of a proof
pub behind : (subject : Subject) (s : Standing) (ls : List Line) (after : Standing) → s.waiting ≡ None → (s.begun ≡ [] → ⊥) → AreLater subject.line_bytes ls
    → has_end ls ≡ true → LeadThrough subject s ls after → Behind subject s ls after
behind subject s [] after none some later ended lead = absurd (false≢true ended)
behind subject s (line.Header version ∷ ls) after none some later ended lead = absurd (false≢true (sym later.2))
behind subject s (line.Pattern number ∷ ls) after none some later ended (next, begins, lead) =
    let began = ap (λ (t : Standing). t.begun) begins.leads in
    behind_pattern subject s number next ls after later.0 begins
    (behind subject next ls after (ap (λ (t : Standing). t.waiting) begins.leads ∙ none) (λ e. let gone : number ∷ s.begun ≡ [] = sym began ∙ e in cc)
    later.4 ended lead)
behind subject s (line.Tree node ∷ ls) after none some later ended (next, inl stands, lead) =
    behind_node subject s node next ls after later.0 stands
    (behind subject next ls after (ap (λ (t : Standing). t.waiting) stands.leads ∙ none) (λ e. some (sym (ap (λ (t : Standing). t.begun) stands.leads) ∙ e))
    later.4 ended lead)
behind subject s (line.Tree node ∷ ls) after none some later ended (next, inr (inl shows), lead) = absurd (none-some shows.pair (sym none ∙ shows.waits))
behind subject s (line.Tree node ∷ ls) after none some later ended (next, inr (inr waits), lead) = absurd (some waits.takes.early)
behind subject s (line.End ∷ ls) after none some later ended (next, ends, lead) = behind_last subject s next ls after later ends lead

-- nodes that refute what is pending lead through it
lead_nodes : (subject : Subject) (version : ℕ) (pairs : List (ℕ × ℕ)) (p : Search (fact_of (kind_of version))) (number : ℕ) (older : List ℕ)
    (ws : List (Pending (fact_of (kind_of version)))) (ns : List Node) (ls : List Line) → search_at (kind_of version) subject pairs number ≡ Some p
    → RefutedInOrder p (IsJudged p) ws ns → ((after : Standing) × LeadThrough subject (standing version pairs (number ∷ older) []) ls after)
    → (after : Standing) × LeadThrough subject (standing version pairs (number ∷ older) ws) (map line.Tree ns ++ ls) after
lead_nodes subject version pairs p number older ws [] ls named refuted lead = (
  lead.0,
  subst (λ (vs : List (Pending (fact_of (kind_of version)))). LeadThrough subject (standing version pairs (number ∷ older) vs) ls lead.0)
      (sym refuted) lead.1,
)
lead_nodes subject version pairs p number older [] (n ∷ ns) ls named refuted lead = absurd refuted
lead_nodes subject version pairs p number older (w ∷ ws) (n ∷ ns) ls named refuted lead =
    let next = parts p w n ++ ws in
    let rest = lead_nodes subject version pairs p number older next ns ls named refuted.1 lead in
    let first : AtWord subject (standing version pairs (number ∷ older) (w ∷ ws)) p w ws = record
    { none = refl; number = number; older = older; begun = refl; searched = named; pending = refl } in
    let stands : Stands subject (standing version pairs (number ∷ older) (w ∷ ws)) n (standing version pairs (number ∷ older) next) = record
    { search = p; word = w; words = ws; at = first; may = refuted.0; leads = refl } in
    (rest.0, (standing version pairs (number ∷ older) next, inl stands, rest.1))

-- the lines of proofs lead to the end
pub lead_proofs : (subject : Subject) (version : ℕ) (pairs : List (ℕ × ℕ)) (proofs : List (ℕ × List Tree)) (begun : List ℕ) → (version ≡ 2 → pairs ≡ [] → ⊥)
    → AllByRecursion (ProvesClaim (kind_of version) subject pairs) proofs → Distinct (map proof_number proofs)
    → AllByRecursion (λ k. In k begun → ⊥) (map proof_number proofs) → (after : Standing)
    × LeadThrough subject (standing version pairs begun []) (proof_lines (proofs_of proofs)) after
lead_proofs subject version pairs [] begun some prove distinct new =
    let free : NothingIsLeft (standing version pairs begun []) = record { none = refl; some = some; done = refl } in
    let ends : EndsCertificate (standing version pairs begun []) (standing version pairs begun []) = record { free = free; leads = refl } in
    (standing version pairs begun [], (standing version pairs begun [], ends, refl))
lead_proofs subject version pairs (q ∷ qs) begun some prove distinct new =
    let one = prove.0 in
    let starts = one.search.roots in
    let refuted = (in_order IsJudged one.search (all_preorder q.1)).1 (q.1, one.proves, refl) in
    let rest = lead_proofs subject version pairs qs (q.0 ∷ begun) some prove.1 distinct.1 (still_new q.0 begun (map proof_number qs) distinct.0 new.1) in
    let through = lead_nodes subject version pairs one.search q.0 begun starts (all_preorder q.1) (proof_lines (proofs_of qs)) one.searched refuted rest in
    let free : NothingIsLeft (standing version pairs begun []) = record { none = refl; some = some; done = refl } in
    let begins : BeginsProof subject (standing version pairs begun []) q.0 (standing version pairs (q.0 ∷ begun) starts) = record
    { free = free; search = one.search; searched = one.searched; new = new.0; leads = refl } in
    (through.0, (standing version pairs (q.0 ∷ begun) starts, begins, through.1))

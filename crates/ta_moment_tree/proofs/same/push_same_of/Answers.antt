use Rattle.ta_moment_tree.proofs.Common.{◌++◌, List, sym, subst, append_assoc, UnknownForm, Vector, below, early, late, VectorSpeaks, SmallVector, moment_of}
use Rattle.ta_moment_tree.proofs.Adding.{adds_both, adds_same}
use Rattle.ta_moment_tree.proofs.same.push_same_of.Goals as goal

pub push_equal-requires-clause-left : goal.push_equal-requires-clause-left
push_equal-requires-clause-left c = subst (λ (v : Vector). SmallVector 3 v) (sym c.early-early.ensures) c.requires.first

pub push_equal-requires-clause-right : goal.push_equal-requires-clause-right
push_equal-requires-clause-right c = subst (λ (v : Vector). SmallVector 3 v) (sym c.early-other_early.ensures) c.requires.second

pub push_equal-requires-2-clause-left : goal.push_equal-requires-2-clause-left
push_equal-requires-2-clause-left c = subst (λ (v : Vector). SmallVector 3 v) (sym c.late-late.ensures) c.requires.first_late

pub push_equal-requires-2-clause-right : goal.push_equal-requires-2-clause-right
push_equal-requires-2-clause-right c = subst (λ (v : Vector). SmallVector 3 v) (sym c.late-other_late.ensures) c.requires.second_late

pub returns : goal.returns
returns c n h k l m =
    let t = c.args.plan.now.task in
    let a = t.automaton.now in
    let p = t.pattern.now in
    let x = c.early-early.ensures in
    let y = c.early-other_early.ensures in
    let v = c.late-late.ensures in
    let w = c.late-other_late.ensures in
    let b : Vector → Vector → List UnknownForm = below a p n in
    let e = early (moment_of c.args.first.now) in
    let f = early (moment_of c.args.second.now) in
    let d = late (moment_of c.args.first.now) in
    let g = late (moment_of c.args.second.now) in
    adds_same _ _ _ _ (append_assoc (b e f) (b f e) (b d g ++ b g d))
    (adds_both (b e f ++ b f e) (b d g ++ b g d) _ _ _
    (adds_same _ _ _ _ (λ i. b (x i) (y i) ++ b (y i) (x i))
    (c.in_ok-push_equal.ensures n (subst (λ (u : Vector). VectorSpeaks n u) (sym x) h) (subst (λ (u : Vector). VectorSpeaks n u) (sym y) l)))
    (adds_same _ _ _ _ (λ i. b (v i) (w i) ++ b (w i) (v i))
    (c.in_ok-push_equal-2.ensures n (subst (λ (u : Vector). VectorSpeaks n u) (sym v) k) (subst (λ (u : Vector). VectorSpeaks n u) (sym w) m))))

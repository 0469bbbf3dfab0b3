use Rattle.ta_simplex.proofs.Common.{ℕ, ◌<◌, arith, List, length, sym, ◌∙◌, subst, Row, AreModestRows, IsModestRow, Tableau, FirstHold, grown, IsUnderWay}
use Rattle.ta_simplex.proofs.Common.{revised_laws}
use Rattle.std.proofs.lemmas.List.Elements.{All-drop}
use Rattle.ta_revised.proofs.GrownHolds.{grown_holds}
use Rattle.ta_simplex.proofs.RevisedGrowth.{under_way_first, may_grow, under_way_grown}
use Rattle.ta_simplex.proofs.RevisedBranchLemmas.{last_revised}
use Rattle.ta_simplex.proofs.revised_branch.RevisedBranch.beginning.Goals as goal

pub grown-requires-clause-more : goal.grown-requires-clause-more
grown-requires-clause-more c =
    let e = sym c.as_slice-2.ensures.value ∙ c.in-Some.ensures.cases.0 in
    let last = last_revised c.args.self.now.systems.items c.in-Some.field-0-1.now c.in-Some.last.now c.args.system.now c.requires.fits.0 e
    c.requires.branch.systems c.requires.fits.1 in
    (may_grow last.shorter c.args.system.now c.in-Some.last.now.dictionary last.begins last.under_way c.requires.room).more

pub grown-requires-clause-count : goal.grown-requires-clause-count
grown-requires-clause-count c =
    let e = sym c.as_slice-2.ensures.value ∙ c.in-Some.ensures.cases.0 in
    let last = last_revised c.args.self.now.systems.items c.in-Some.field-0-1.now c.in-Some.last.now c.args.system.now c.requires.fits.0 e
    c.requires.branch.systems c.requires.fits.1 in
    (may_grow last.shorter c.args.system.now c.in-Some.last.now.dictionary last.begins last.under_way c.requires.room).count

pub grown-requires-clause-room : goal.grown-requires-clause-room
grown-requires-clause-room c =
    let e = sym c.as_slice-2.ensures.value ∙ c.in-Some.ensures.cases.0 in
    let last = last_revised c.args.self.now.systems.items c.in-Some.field-0-1.now c.in-Some.last.now c.args.system.now c.requires.fits.0 e
    c.requires.branch.systems c.requires.fits.1 in
    (may_grow last.shorter c.args.system.now c.in-Some.last.now.dictionary last.begins last.under_way c.requires.room).room

pub returns-in_ok-first-in-None-clause-first : goal.returns-in_ok-first-in-None-clause-first
returns-in_ok-first-in-None-clause-first c =
    let all = rw c.if-not-branch.false at c.in_ok-extend.ensures.all in
    let modest = subst (λ (rs : List Row). AreModestRows rs) c.as_slice.ensures all.modest in
    record {
      under_way = subst (λ (d : Tableau). IsUnderWay c.args.system.now d) (sym c.in_ok-first-in-None.ensures)
          (under_way_first revised_laws c.args.system.now modest);
      hold = λ scale values is are i h. absurd (omega arith);
    }

pub returns-in_ok-grown-in-Some-clause-first : goal.returns-in_ok-grown-in-Some-clause-first
returns-in_ok-grown-in-Some-clause-first c =
    let e = sym c.as_slice-2.ensures.value ∙ c.in-Some.ensures.cases.0 in
    let last = last_revised c.args.self.now.systems.items c.in-Some.field-0-1.now c.in-Some.last.now c.args.system.now c.requires.fits.0 e
    c.requires.branch.systems c.requires.fits.1 in
    let all = rw c.if-not-branch.false at c.in_ok-extend.ensures.all in
    let modest = subst (λ (rs : List Row). AreModestRows rs) c.as_slice.ensures all.modest in
    record {
      under_way = subst (λ (d : Tableau). IsUnderWay c.args.system.now d) (sym c.in_ok-grown-in-Some.ensures)
          (under_way_grown revised_laws last.shorter c.args.system.now c.in-Some.last.now.dictionary last.begins last.under_way
          (All-drop IsModestRow (length last.shorter.rows) c.args.system.now.rows modest));
      hold = subst (λ (d : Tableau). FirstHold c.args.system.now d c.in-Some.last.now.rows) (sym c.in_ok-grown-in-Some.ensures)
          (subst (λ (n : ℕ). FirstHold c.args.system.now (grown c.in-Some.last.now.dictionary c.args.system.now.unknowns) n) last.count
          (grown_holds last.shorter c.args.system.now last.under_way.tableau c.in-Some.last.now.dictionary last.begins.rows last.under_way.revised last.holds));
    }

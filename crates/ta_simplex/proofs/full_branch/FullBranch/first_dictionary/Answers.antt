use Rattle.ta_simplex.proofs.Common.{ℕ, map, length, arith, sym, ◌∙◌, subst, Follows, slack_tableau}
use Rattle.ta_simplex.proofs.FullBranchLemmas.{cut_last, cut_extended, cut_overflows, may_begin, are_kept}
use Rattle.ta_simplex.proofs.full_branch.FullBranch.first_dictionary.Goals as goal

pub extend-requires-clause-longer : goal.extend-requires-clause-longer
extend-requires-clause-longer g c =
    let e = sym c.as_slice.ensures.value ∙ c.in-Some.ensures.cases.0 in
    let cut = cut_last g.D.Dictionary.tableau g.D.Dictionary.pivot_of c.args.self.now.kept.items c.truncate-in-Some.new.self.items c.args.self.now.systems.items
    c.in-Some.field-0-1.now c.in-Some.last.now c.args.system.now c.requires.fits.0 e c.requires.branch c.requires.fits.1 c.truncate-in-Some.ensures.items in
    may_begin cut.shorter c.args.system.now (map g.D.Dictionary.pivot_of c.truncate-in-Some.new.self.items) (length c.truncate-in-Some.new.self.items)
    (g.D.Dictionary.tableau c.in-Some.last.now.dictionary) cut.begins cut.follows

pub extend-requires-clause-kept : goal.extend-requires-clause-kept
extend-requires-clause-kept g c =
    let e = sym c.as_slice.ensures.value ∙ c.in-Some.ensures.cases.0 in
    let cut = cut_last g.D.Dictionary.tableau g.D.Dictionary.pivot_of c.args.self.now.kept.items c.truncate-in-Some.new.self.items c.args.self.now.systems.items
    c.in-Some.field-0-1.now c.in-Some.last.now c.args.system.now c.requires.fits.0 e c.requires.branch c.requires.fits.1 c.truncate-in-Some.ensures.items in
    let t = g.D.Dictionary.tableau c.in-Some.last.now.dictionary in
    let f = subst (λ (n : ℕ). Follows (slack_tableau cut.shorter) (map g.D.Dictionary.pivot_of c.truncate-in-Some.new.self.items) n t) cut.all cut.follows in
    let kept = are_kept cut.shorter (map g.D.Dictionary.pivot_of c.truncate-in-Some.new.self.items) t f in
    rw c.as_slice-in-Some.ensures.value kept

pub returns-in-Ok-clause-follows : goal.returns-in-Ok-clause-follows
returns-in-Ok-clause-follows g c =
    let e = sym c.as_slice.ensures.value ∙ c.in-Some.ensures.cases.0 in
    let cut = cut_last g.D.Dictionary.tableau g.D.Dictionary.pivot_of c.args.self.now.kept.items c.truncate-in-Some.new.self.items c.args.self.now.systems.items
    c.in-Some.field-0-1.now c.in-Some.last.now c.args.system.now c.requires.fits.0 e c.requires.branch c.requires.fits.1 c.truncate-in-Some.ensures.items in
    let ok = rw c.as_slice-in-Some.ensures.value at c.in-Ok.ensures.ok in
    let stay = rw c.as_slice-in-Some.ensures.value at c.in-Ok.ensures.in_range in
    cut_extended g.D.Dictionary.tableau g.D.Dictionary.pivot_of c.truncate-in-Some.new.self.items c.args.self.now.systems.items c.in-Some.last.now
    c.args.system.now (g.D.Dictionary.tableau c.in-Ok.first) cut ok stay

pub returns-in-Ok-clause-branch : goal.returns-in-Ok-clause-branch
returns-in-Ok-clause-branch g c =
    let e = sym c.as_slice.ensures.value ∙ c.in-Some.ensures.cases.0 in
    (cut_last g.D.Dictionary.tableau g.D.Dictionary.pivot_of c.args.self.now.kept.items c.truncate-in-Some.new.self.items c.args.self.now.systems.items
    c.in-Some.field-0-1.now c.in-Some.last.now c.args.system.now c.requires.fits.0 e c.requires.branch c.requires.fits.1
    c.truncate-in-Some.ensures.items).standing

pub returns-in-Err-Overflow-clause-fault : goal.returns-in-Err-Overflow-clause-fault
returns-in-Err-Overflow-clause-fault g c =
    let e = sym c.as_slice.ensures.value ∙ c.in-Some.ensures.cases.0 in
    let cut = cut_last g.D.Dictionary.tableau g.D.Dictionary.pivot_of c.args.self.now.kept.items c.truncate-in-Some.new.self.items c.args.self.now.systems.items
    c.in-Some.field-0-1.now c.in-Some.last.now c.args.system.now c.requires.fits.0 e c.requires.branch c.requires.fits.1 c.truncate-in-Some.ensures.items in
    let fault = rw (c.in-Err-Overflow.field-0-is, c.as_slice-in-Some.ensures.value) at c.in-Err-Overflow.ensures.fault in
    cut_overflows g.D.Dictionary.tableau g.D.Dictionary.pivot_of c.truncate-in-Some.new.self.items c.args.self.now.systems.items c.in-Some.last.now
    c.args.system.now cut c.in-Err-Overflow.pivot _ c.saturating_add.result fault (omega arith)

use Rattle.ta_revised.proofs.Common.{◌≡◌, ◌≤◌, ◌-◌, ◌++◌, arith, length, pos, replicate, rules, subst, sym, unsigned_abs, FitsSigned, List, ℤ, to_z-of_z}
use Rattle.ta_revised.proofs.Common.{All-append, All-replicate, AreBounded, IsProper, narrow_view}
use Rattle.std.specs.Int.{w16}
use Rattle.ta_dense.proofs.ExtendFacts.{IsProper-padded}
use Rattle.ta_revised.proofs.narrow_rows.padded_narrow.Goals as goal

pub returns-clause-narrow : goal.returns-clause-narrow
returns-clause-narrow c =
    let row = narrow_view c.args.row.now in
    let own = c.requires.narrow in
    let n = c.args.columns in
    let zeros = replicate (n - length row.cells) (pos 0) in
    let fd : FitsSigned w16 c.args.row.now.denominator = search rules in
    let fk : FitsSigned w16 c.args.row.now.constant = search rules in
    let items : row.cells ++ zeros ≡ c.in_ok-padded.field-0 = sym c.in_ok-padded.ensures in
    let small = All-replicate (λ (x : ℤ). unsigned_abs x ≤ c.args.row.now.bound) (n - length row.cells) (pos 0) (omega arith) in
    simp to_z-of_z record {
      proper = subst (λ (xs : List ℤ). IsProper n (record { basic = c.args.basic; denominator = row.denominator; constant = row.constant; cells = xs })) items
          (IsProper-padded (length row.cells) c.args.basic n row own.proper c.requires.columns);
      bounded = record {
        denominator = own.bounded.denominator;
        constant = own.bounded.constant;
        cells = subst (AreBounded c.args.row.now.bound) items
            (All-append (λ (x : ℤ). unsigned_abs x ≤ c.args.row.now.bound) row.cells zeros own.bounded.cells small);
      };
      fits = own.fits;
    }

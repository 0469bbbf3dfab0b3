use Rattle.ta_program.proofs.Common.{◌∙◌, ◌≤◌, [], ℕ, Ok, Option, append-nil, arith, inr, length, refl, subst, sym, Told, subject_of, Subject, JudgedTo}
use Rattle.ta_program.proofs.Common.{Grew, IsUnproved, JudgedWhole, Turn}
use Rattle.ta_program.proofs.PiecesJudged.{turn_more}
use Rattle.ta_program.proofs.check.judge_pieces.Goals as goal

pub pieces-preserved : goal.pieces-preserved
pieces-preserved g c =
    let here = c.pieces.invariant in
    let first = g.S.Shelf.calls c.args.shelf.now in
    let judged = subst (λ (o : Option Told). JudgedTo o c.args.name.now first (g.S.Shelf.calls c.pieces.shelf) c.pieces.checker here.text) (sym here.files_kept)
    here.judged in
    let t = turn_more (subject_of c.pieces.checker) (g.S.Shelf.files c.args.shelf.now) (g.S.Shelf.files c.pieces.shelf) c.args.name.now c.pieces.at first
    (g.S.Shelf.calls c.judge_piece.new.shelf) c.judge_piece.new.checker c.in-Ok-Some.field-0 c.in-Ok-Some.next here.files_kept c.in-Ok-Some.field-0-is
    (c.in-Ok-Some.ensures.turn first here.text judged here.place) in
    record {
      text = t.1;
      judged = t.3;
      place = t.2;
      same = c.in-Ok-Some.ensures.subject ∙ here.same;
      files_kept = c.in-Ok-Some.ensures.kept ∙ here.files_kept;
      faults_kept = c.in-Ok-Some.ensures.cause ∙ here.faults_kept;
    }

pub pieces-smaller : goal.pieces-smaller
pieces-smaller g c =
    let here = c.pieces.invariant in
    let first = g.S.Shelf.calls c.args.shelf.now in
    let judged = subst (λ (o : Option Told). JudgedTo o c.args.name.now first (g.S.Shelf.calls c.pieces.shelf) c.pieces.checker here.text) (sym here.files_kept)
    here.judged in
    let t = turn_more (subject_of c.pieces.checker) (g.S.Shelf.files c.args.shelf.now) (g.S.Shelf.files c.pieces.shelf) c.args.name.now c.pieces.at first
    (g.S.Shelf.calls c.judge_piece.new.shelf) c.judge_piece.new.checker c.in-Ok-Some.field-0 c.in-Ok-Some.next here.files_kept c.in-Ok-Some.field-0-is
    (c.in-Ok-Some.ensures.turn first here.text judged here.place) in
    let within : length t.1 ≤ 1073741824 = t.3.within in
    omega (arith, t.0, t.2, within)

pub pieces-init : goal.pieces-init
pieces-init g c = record {
  text = [];
  judged = record {
    calls = record { added = []; grown = sym (append-nil (g.S.Shelf.calls c.args.shelf.now)); such = record { in_order = tt; given = refl } };
    there = λ more. absurd (omega arith);
    stands = c.requires;
    within = omega arith;
  };
  place = refl;
  same = refl;
  files_kept = refl;
  faults_kept = refl;
}

pub returns-in-Ok-None-clause-judged : goal.returns-in-Ok-None-clause-judged
returns-in-Ok-None-clause-judged g c =
    let here = c.pieces.invariant in
    let name = c.args.name.now in
    let first = g.S.Shelf.calls c.args.shelf.now in
    let now = g.S.Shelf.calls c.judge_piece.new.shelf in
    let checker = c.judge_piece.new.checker in
    let judged = subst (λ (o : Option Told). JudgedTo o name first (g.S.Shelf.calls c.pieces.shelf) c.pieces.checker here.text) (sym here.files_kept)
    here.judged in
    let ended = subst (λ (next : Option ℕ). Turn (subject_of c.pieces.checker) (g.S.Shelf.files c.pieces.shelf) name c.pieces.at first now checker (Ok next))
    c.in-Ok-None.field-0-is (c.in-Ok-None.ensures.turn first here.text judged here.place) in
    let whole = subst (λ (o : Option Told). Grew (JudgedWhole o name checker) first now) here.files_kept ended in
    record { added = whole.added; grown = whole.grown; such = (whole.such, c.in-Ok-None.ensures.subject ∙ here.same) }

pub returns-in-Err-clause-judged : goal.returns-in-Err-clause-judged
returns-in-Err-clause-judged g c =
    let here = c.pieces.invariant in
    let name = c.args.name.now in
    let first = g.S.Shelf.calls c.args.shelf.now in
    let now = g.S.Shelf.calls c.judge_piece.new.shelf in
    let refusal = c.in-Err.refusal in
    let judged = subst (λ (o : Option Told). JudgedTo o name first (g.S.Shelf.calls c.pieces.shelf) c.pieces.checker here.text) (sym here.files_kept)
    here.judged in
    let unproved = subst (λ (o : Option Told). Grew (IsUnproved (subject_of c.pieces.checker) o name refusal) first now) here.files_kept
    (c.in-Err.ensures.turn first here.text judged here.place) in
    subst (λ (s : Subject). Grew (IsUnproved s (g.S.Shelf.files c.args.shelf.now) name refusal) first now) here.same unproved

pub judge_piece-requires-clause-sound : goal.judge_piece-requires-clause-sound
judge_piece-requires-clause-sound g c = inr (c.pieces.invariant.text, c.pieces.invariant.judged.stands)

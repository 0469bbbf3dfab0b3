use Rattle.ta_encode.proofs.Common.{refl}
use Rattle.ta_encode.proofs.Drafts.{word_few}
use Rattle.ta_encode.proofs.Marking.{same_on_part}
use Rattle.ta_encode.proofs.growing.Encoding.grown_to.Goals as goal

pub part_of-requires : goal.part_of-requires
part_of-requires c = record {
  few = word_few c.args.task c.args.start_mask c.args.elements.now c.args.elements.now c.requires.legal refl;
  encoding = c.requires.encoding;
}

pub finish-requires : goal.finish-requires
finish-requires c =
    let part = c.in_ok-part.ensures in
    record {
      few = word_few c.args.task c.args.start_mask c.args.elements.now c.args.elements.now c.requires.legal refl;
      bounds = c.requires.bounds;
      part = record { within = part.within; marked = part.marked; marks = part.marks; drafted = part.drafted; same = part.same; rows_are = refl };
    }

pub returns-clause-system : goal.returns-clause-system
returns-clause-system c = c.in_ok-grown.ensures.system

pub returns-clause-same : goal.returns-clause-same
returns-clause-same c =
    let part = c.in_ok-part.ensures in
    let told = c.in_ok-grown.ensures.same in
    same_on_part c.args.self.system.rows c.in_ok-part.part.draft.rows.items c.in_ok-grown.grown.encoding.system.rows c.in_ok-part.part.same
    c.in_ok-grown.grown.same told.0 part.same part.rows_are told.1

use Rattle.ta_shelf.proofs.telling.tell_halt.Goals as goal

pub returns-in-Unwritten-clause-told : goal.returns-in-Unwritten-clause-told
returns-in-Unwritten-clause-told g c = rw c.in-Unwritten.is c.tell_line.ensures

pub returns-in-Unput-clause-told : goal.returns-in-Unput-clause-told
returns-in-Unput-clause-told g c = rw c.in-Unput.is c.tell_of_file.ensures

pub returns-in-Memory-clause-told : goal.returns-in-Memory-clause-told
returns-in-Memory-clause-told g c = rw c.in-Memory.is c.tell_line-in-Memory.ensures

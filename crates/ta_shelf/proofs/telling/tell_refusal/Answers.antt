use Rattle.ta_shelf.proofs.telling.tell_refusal.Goals as goal

pub returns-in-Refused-clause-told : goal.returns-in-Refused-clause-told
returns-in-Refused-clause-told g c = rw c.in-Refused.is c.tell_of_file.ensures

pub returns-in-ReadFailed-clause-told : goal.returns-in-ReadFailed-clause-told
returns-in-ReadFailed-clause-told g c = rw c.in-ReadFailed.is c.tell_of_file-in-ReadFailed.ensures

pub returns-in-PutFailed-clause-told : goal.returns-in-PutFailed-clause-told
returns-in-PutFailed-clause-told g c = rw c.in-PutFailed.is c.tell_of_file-in-PutFailed.ensures

pub returns-in-Memory-clause-told : goal.returns-in-Memory-clause-told
returns-in-Memory-clause-told g c = rw c.in-Memory.is c.tell_line.ensures

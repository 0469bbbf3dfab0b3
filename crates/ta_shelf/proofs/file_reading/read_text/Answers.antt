use Rattle.ta_shelf.proofs.ShellCommon.{◌≡◌, ◌∙◌, ◌++◌, List, Err, Ok, inl, inr, refl, subst, sym, append_cancel_left, IfSome, Call, Event, reads, GivesFirst}
use Rattle.ta_shelf.proofs.ShellCommon.{Missing, TooLong, longer_than, missing, seen}
use Rattle.ta_shelf.proofs.ReadCalls.{reads_same, gives_refusal, is_reading, sees_absent, sees_more, sees_whole}
use Rattle.ta_shelf.proofs.file_reading.read_text.Goals as goal

-- a log grew by one list of calls
same_added : (before after : List Event) (first second : List Call) → after ≡ before ++ reads first → after ≡ before ++ reads second → first ≡ second
same_added before after first second one other = reads_same first second (append_cancel_left before (reads first) (reads second) (sym one ∙ other))

pub returns-in-Ok-clause-reads : goal.returns-in-Ok-clause-reads
returns-in-Ok-clause-reads g c =
    let log = c.in-Ok.ensures.log in
    record {
      added = log.added;
      grown = log.grown;
      such = record {
        reading = is_reading _ c.args.limit.bytes (Ok c.in-Ok.bytes) _ log.such;
        gives = (record { seen = sees_whole _ _ c.args.limit.bytes _ _ log.such c.in-Ok.ensures.bytes; within = c.in-Ok.ensures.short }, log.such);
      };
    }

pub returns-in-Err-Missing-clause-reads : goal.returns-in-Err-Missing-clause-reads
returns-in-Err-Missing-clause-reads g c =
    let log = rw c.in-Err-Missing.field-0-is at c.in-Err-Missing.ensures.log in
    let told = rw c.in-Err-Missing.field-0-is at c.in-Err-Missing.ensures.bytes in
    record {
      added = log.added;
      grown = log.grown;
      such = record {
        reading = is_reading _ c.args.limit.bytes (Err Missing) _ log.such;
        gives = gives_refusal
            (seen (g.S.Shelf.files c.args.shelf.now) log.added) c.args.name.now c.args.limit log.added missing c.missing.result c.missing.ensures
            (inl (sees_absent _ _ c.args.limit.bytes _ log.such told, refl));
      };
    }

pub returns-in-Err-TooLong-clause-reads : goal.returns-in-Err-TooLong-clause-reads
returns-in-Err-TooLong-clause-reads g c =
    let log = rw c.in-Err-TooLong.field-0-is at c.in-Err-TooLong.ensures.log in
    let begun = rw c.in-Err-TooLong.field-0-is at c.in-Err-TooLong.ensures.begun in
    let told = subst (λ (calls : List Call). IfSome (g.S.Shelf.files c.args.shelf.now) (λ m. GivesFirst (m c.args.name.now) (Err TooLong) calls))
    (same_added _ _ begun.added log.added begun.grown log.grown) begun.such in
    record {
      added = log.added;
      grown = log.grown;
      such = record {
        reading = is_reading _ c.args.limit.bytes (Err TooLong) _ log.such;
        gives = gives_refusal
            (seen (g.S.Shelf.files c.args.shelf.now) log.added) c.args.name.now c.args.limit log.added (longer_than c.args.limit.bytes) c.too_long.result
            c.too_long.ensures (inr (sees_more _ _ c.args.limit.bytes _ log.such told, refl));
      };
    }

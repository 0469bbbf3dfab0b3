-- what is seen of a file that is read in pieces
use Rattle.ta_shelf.proofs.Common.{ShelfFault}
use Rattle.ta_shelf.proofs.ShellCommon.{◌≡◌, ◌∙◌, ◌+◌, ◌-◌, ◌<◌, ◌≤◌, ◌⊎◌, ℕ, List, [], ◌∷◌, ◌++◌, length, take, drop, Option, None, Some, Ok, Err, refl, sym}
use Rattle.ta_shelf.proofs.ShellCommon.{ap, subst, inl, inr, arith, append_assoc, length-append, append-nil, drop_at, length-take-le, take-append-drop, IfSome}
use Rattle.ta_shelf.proofs.ShellCommon.{Call, PieceBy, ReadsFirst, ReadsOn, Spells, Stops, bytes_given, Told, BeginsWith, FillsFrom, ReadsPiece, IsLonger}
use Rattle.ta_shelf.proofs.ShellCommon.{Refusal, Refused, ReadFailed, PutFailed, Memory, file_line, longer_than, phrase_text, IsReading, SaysOfFile, UnreadBy}
use Rattle.ta_shelf.proofs.ShellCommon.{Absent, Begins, HasMore, Whole, in_calls, seen, where_told, ReadingGoesOn, FileIsAtFault, IsBroken, Kind, Stage}
use Rattle.ta_shelf.proofs.CallLemmas.{ReadsOn-append, bytes_given-append}
use Rattle.ta_shelf.specs.declared.fault.ShelfFault.TheVariants as shelf

-- calls that read the first bytes and then a piece: the piece is full, or it ended the file
pub piece_read : (name text buffer : List ℕ) (at count : ℕ) (calls more : List Call) → ReadsFirst name calls text → at ≡ length text → count ≤ length buffer
    → PieceBy name at buffer (Ok count) more → ((count ≡ length buffer) × ReadsFirst name (calls ++ more) (text ++ take count buffer))
    ⊎ ((count < length buffer) × Spells name (calls ++ more) (text ++ take count buffer))
piece_read name text buffer at count calls more first place few piece =
    let size : length text ≡ length (bytes_given calls) = ap length first.given in
    let order : ReadsOn name 0 (calls ++ piece.turns) = ReadsOn-append name 0 calls piece.turns first.in_order
    (subst (λ (n : ℕ). ReadsOn name n piece.turns) (omega (arith, place, size)) piece.in_order) in
    let given : text ++ take count buffer ≡ bytes_given (calls ++ piece.turns) = ap (λ (xs : List ℕ). xs ++ take count buffer) first.given
    ∙ ap (λ (xs : List ℕ). bytes_given calls ++ xs) (sym piece.ends.0) ∙ sym (bytes_given-append calls piece.turns) in
    let all : at + count ≡ length (text ++ take count buffer) =
    (let part = length-take-le count buffer few in omega (arith, place, part, length-append text (take count buffer))) in
    elim piece.ends.1 [
      | inl full ↦ inl (
        full.0,
        subst (λ (cs : List Call). ReadsFirst name (calls ++ cs) (text ++ take count buffer)) (sym full.1)
            (record { in_order = order; given = given }),
      )
      | inr short ↦ inr (
        short.0,
        record {
          turns = calls ++ piece.turns;
          in_order = order;
          bytes = given;
          asked = length buffer - count;
          some = (let below = short.0 in omega arith);
          all = ap (λ (cs : List Call). calls ++ cs) short.1
              ∙ sym (append_assoc calls piece.turns (record { name = name; at = at + count; asked = length buffer - count; gave = Ok [] } ∷ []))
              ∙ ap (λ (n : ℕ). (calls ++ piece.turns) ++ (record { name = name; at = n; asked = length buffer - count; gave = Ok [] } ∷ [])) all;
        },
      )
    ]

-- calls that read the first bytes, and then one was refused
pub piece_refused : (name text buffer : List ℕ) (at : ℕ) (fault : ShelfFault) (calls more : List Call) → ReadsFirst name calls text → at ≡ length text
    → PieceBy name at buffer (Err fault) more → Stops name (calls ++ more) fault
piece_refused name text buffer at fault calls more first place piece =
    let asked : ℕ = length buffer - length (bytes_given piece.turns) in
    let left : 0 < asked = (let below = piece.ends.0 in omega arith) in
    let size : length text ≡ length (bytes_given calls) = ap length first.given in
    let given : text ++ bytes_given piece.turns ≡ bytes_given (calls ++ piece.turns) = ap (λ (xs : List ℕ). xs ++ bytes_given piece.turns) first.given
    ∙ sym (bytes_given-append calls piece.turns) in
    let all : at + length (bytes_given piece.turns) ≡ length (text ++ bytes_given piece.turns) = omega
    (arith, place, length-append text (bytes_given piece.turns)) in
    record {
      read = text ++ bytes_given piece.turns;
      ends = record {
        turns = calls ++ piece.turns;
        in_order = ReadsOn-append name 0 calls piece.turns first.in_order
            (subst (λ (n : ℕ). ReadsOn name n piece.turns) (omega (arith, place, size)) piece.in_order);
        bytes = given;
        asked = asked;
        some = left;
        all = ap (λ (cs : List Call). calls ++ cs) piece.ends.1
            ∙ sym (append_assoc calls piece.turns (record { name = name; at = at + length (bytes_given piece.turns); asked = asked; gave = Err fault } ∷ []))
            ∙ ap (λ (n : ℕ). (calls ++ piece.turns) ++ (record { name = name; at = n; asked = asked; gave = Err fault } ∷ [])) all;
      };
    }

-- the first bytes of those that calls gave
pub first_seen : (name front back : List ℕ) (calls : List Call) → ReadsFirst name calls (front ++ back) → in_calls calls name (Begins front)
first_seen name front back calls first = record { before = []; those = calls; after = []; all = sym (append-nil calls); such = (back, first) }

pub first_spelled : (name front back : List ℕ) (calls : List Call) → Spells name calls (front ++ back) → in_calls calls name (Begins front)
first_spelled name front back calls spells = record
    { before = []; those = spells.turns; after = _; all = spells.all; such = (back, record { in_order = spells.in_order; given = spells.bytes }) }

pub whole_spelled : (name bytes : List ℕ) (calls : List Call) → Spells name calls bytes → in_calls calls name (Whole bytes)
whole_spelled name bytes calls spells = record { before = []; those = calls; after = []; all = sym (append-nil calls); such = spells }

pub absent_seen : (name : List ℕ) (calls : List Call) → Stops name calls shelf.Missing → in_calls calls name Absent
absent_seen name calls stops = record { before = []; those = calls; after = []; all = sym (append-nil calls); such = stops }

-- a file that begins with a text goes on with a piece
begins_more : (file : Option (List ℕ)) (text buffer : List ℕ) (at count : ℕ) → (0 < length text → BeginsWith file text) → at ≡ length text
    → FillsFrom file at buffer count → BeginsWith file (text ++ take count buffer)
begins_more file [] buffer at count there place fills =
    let r = fills.reads in
    let none : at ≡ 0 = place in
    let front : take count buffer ≡ take count r.bytes = r.same ∙ ap (λ (n : ℕ). take count (drop n r.bytes)) none in
    record {
      rest = drop count r.bytes;
      held = r.held ∙ ap Some
          (sym (take-append-drop count r.bytes) ∙ ap (λ (xs : List ℕ). xs ++ drop count r.bytes) (sym front));
    }
begins_more file (x ∷ xs) buffer at count there place fills =
    let r = fills.reads in
    let begun = there (search arith) in
    let e : Some r.bytes ≡ Some ((x ∷ xs) ++ begun.rest) = sym r.held ∙ begun.held in
    let same : r.bytes ≡ (x ∷ xs) ++ begun.rest = cc in
    let behind : drop at r.bytes ≡ begun.rest = ap (drop at) same ∙ drop_at (x ∷ xs) begun.rest at (sym place) in
    let front : take count buffer ≡ take count begun.rest = r.same ∙ ap (take count) behind in
    record {
      rest = drop count begun.rest;
      held = begun.held ∙ ap Some (
          ap (λ (ys : List ℕ). (x ∷ xs) ++ ys) (sym (take-append-drop count begun.rest) ∙ ap (λ (ys : List ℕ). ys ++ drop count begun.rest) (sym front))
          ∙ sym (append_assoc (x ∷ xs) (take count buffer) (drop count begun.rest)));
    }

-- and is whole where the piece ended it
no_more : (xs rest : List ℕ) (limit : ℕ) (file : Option (List ℕ)) → file ≡ Some (xs ++ rest) → limit ≡ length xs → ¬ IsLonger file limit → file ≡ Some xs
no_more xs [] limit file held place ended = held ∙ ap Some (append-nil xs)
no_more xs (y ∷ ys) limit file held place ended =
    absurd (ended (record {
      bytes = xs ++ (y ∷ ys);
      held = held;
      longer =
          (let size : length (xs ++ (y ∷ ys)) ≡ length xs + length (y ∷ ys) = length-append xs (y ∷ ys) in omega (arith, place, size));
    }))

module _ (files : Option Told) (name text buffer : List ℕ) (at count : ℕ) (there : 0 < length text → where_told files name (Begins text))
    (place : at ≡ length text) (some : 0 < length buffer) (reads : IfSome files (λ m. ReadsPiece (m name) at buffer (Ok count))) where
  pub told_more : where_told files name (Begins (text ++ take count buffer))
  told_more = more files there reads
    where
      more : (files : Option Told) → (0 < length text → where_told files name (Begins text)) → IfSome files (λ m. ReadsPiece (m name) at buffer (Ok count))
          → where_told files name (Begins (text ++ take count buffer))
      more None there reads = tt
      more (Some m) there reads = begins_more (m name) text buffer at count there place (reads some)

  pub told_whole : count < length buffer → count ≤ length buffer → where_told files name (Whole (text ++ take count buffer))
  told_whole short few = whole files there reads
    where
      whole : (files : Option Told) → (0 < length text → where_told files name (Begins text)) → IfSome files (λ m. ReadsPiece (m name) at buffer (Ok count))
          → where_told files name (Whole (text ++ take count buffer))
      whole None there reads = tt
      whole (Some m) there reads =
          let fills = reads some in
          let begins = begins_more (m name) text buffer at count there place fills in
          let part = length-take-le count buffer few in
          no_more (text ++ take count buffer) begins.rest (at + count) (m name) begins.held (omega (arith, place, part, length-append text (take count buffer)))
          (fills.ended short)

pub told_front : (files : Option Told) (name front back : List ℕ) → where_told files name (Begins (front ++ back)) → where_told files name (Begins front)
told_front None name front back there = tt
told_front (Some m) name front back there = record { rest = back ++ there.rest; held = there.held ∙ ap Some (append_assoc front back there.rest) }

pub told_absent : (files : Option Told) (name buffer : List ℕ) (at : ℕ) → IfSome files (λ m. ReadsPiece (m name) at buffer (Err shelf.Missing))
    → where_told files name Absent
told_absent None name buffer at reads = tt
told_absent (Some m) name buffer at reads = reads

-- stages that end before the file does
module _ {A F T : Type 0} (kind : Kind A F) (value : T → A) (files : Option Told) (name : List ℕ) (calls : List Call) where
  -- a read was refused
  pub stage_unread : (fault : ShelfFault) (refusal : Refusal) → UnreadBy kind.limit name fault refusal → Stops name calls fault
      → (fault ≡ shelf.Missing → where_told files name Absent) → Stage {T = T} kind value files name (Err refusal) calls
  stage_unread shelf.Missing (Refused number who why) says stops told = record {
    reading = inr (stops.read, _, stops.ends);
    yields = record {
      numbered = says.0;
      words = phrase_text why;
      said = ap (λ (n : List ℕ). file_line n (phrase_text why)) says.1;
      wrong = inl (inl ((absent_seen name calls stops, told refl), says.2));
    };
  }
  stage_unread shelf.Missing (ReadFailed who) says stops told = absurd says
  stage_unread shelf.Missing (PutFailed who) says stops told = absurd says
  stage_unread shelf.Missing Memory says stops told = absurd says
  stage_unread shelf.Failed (Refused number who why) says stops told = absurd says
  stage_unread shelf.Failed (ReadFailed who) says stops told = record { reading = inr (stops.read, _, stops.ends); yields = says }
  stage_unread shelf.Failed (PutFailed who) says stops told = absurd says
  stage_unread shelf.Failed Memory says stops told = absurd says
  stage_unread shelf.Memory refusal says stops told = subst (λ (r : Refusal). Stage {T = T} kind value files name (Err r) calls) (sym says)
      (record { reading = inr (stops.read, _, stops.ends); yields = tt })

  pub stage_memory : IsReading name calls → Stage {T = T} kind value files name (Err Memory) calls
  stage_memory reading = record { reading = reading; yields = tt }

  -- there are more bytes than the limit allows, and reading went on behind those that it allows
  pub stage_too_long : (refusal : Refusal) → SaysOfFile kind.limit name (longer_than kind.limit.bytes) refusal → IsReading name calls
      → HasMore (seen files calls) name kind.limit.bytes (ReadingGoesOn kind) → Stage {T = T} kind value files name (Err refusal) calls
  stage_too_long (Refused number who why) says reading more = record {
    reading = reading;
    yields = record {
      numbered = says.0;
      words = phrase_text why;
      said = ap (λ (n : List ℕ). file_line n (phrase_text why)) says.1;
      wrong = inl
          (inr (more, says.2));
    };
  }
  stage_too_long (ReadFailed who) says reading more = absurd says
  stage_too_long (PutFailed who) says reading more = absurd says
  stage_too_long Memory says reading more = absurd says

  -- the bytes are at a fault, or the first ones are
  pub stage_faulty : (refusal : Refusal) (words : List ℕ) → SaysOfFile kind.limit name words refusal → IsReading name calls
      → ((said : List ℕ) → said ≡ words → FileIsAtFault kind (seen files calls) name said ⊎ IsBroken kind (seen files calls) name said)
      → Stage {T = T} kind value files name (Err refusal) calls
  stage_faulty (Refused number who why) words says reading faulty = record {
    reading = reading;
    yields = record {
      numbered = says.0;
      words = phrase_text why;
      said = ap (λ (n : List ℕ). file_line n (phrase_text why)) says.1;
      wrong = inr
          (faulty (phrase_text why) says.2);
    };
  }
  stage_faulty (ReadFailed who) words says reading faulty = absurd says
  stage_faulty (PutFailed who) words says reading faulty = absurd says
  stage_faulty Memory words says reading faulty = absurd says

-- Where `compress` answers, and where a guard leaves the range.
use Rattle.ta_base.specs.declared.limits.Limits.{Limits}
use Rattle.ta_program.specs.Values.{limits_of}
use Rattle.ta_program.proofs.Common.{◌≡◌, ◌∙◌, ◌⊎◌, ℕ, List, [], Option, Some, subst, refl, inl, inr, File, Run, Told, TwoNames, FileMeans, IsFile, State}
use Rattle.ta_program.proofs.Common.{Performs, compress_meaning, file_kind, in_files, no_hindrance, one_legal, replies, replies_monotone, seen, whole_one}
use Rattle.ta_program.proofs.Common.{CanCompress, Compresses, LeavesRange, SaysShort, long_kind, out_of_range_line, short_meaning}
use Rattle.ta_compress.proofs.Once.{refusals_once}
use Rattle.ta_compress.specs.declared.fault.CompressFault.TheVariants.{Replay}
use Rattle.ta_compress.specs.Faults.{Compressible}
use Rattle.ta_replay.specs.declared.fault.RunFault.TheVariants.{Overflow}
use Rattle.ta_replay.proofs.Once.{texts_once}
use Rattle.ta_shelf.specs.Ends.End.{Done, Stopped, Unread, Unbegun, Unput, Unwritten, NoMemory}
use Rattle.ta_program.proofs.Meanings.{compress_decides, short_monotone}

-- known files hold one file
one_file : (l : Limits) (told : Told) (name : List ℕ) (file other : File) → IsFile l (in_files told) name file → IsFile l (in_files told) name other
    → file ≡ other
one_file l told name file other h is = one_legal l is.bytes file other
    (subst (λ (bytes : List ℕ). (file_kind l).means bytes file) (whole_one told name l.bytes h.bytes is.bytes h.had is.had) h.means) is.means

-- what can be compressed is not refused
not_refused : (told : Told) (asked : TwoNames) → CanCompress told asked → (number : ℕ) (line : List ℕ)
    → (compress_meaning asked).refuses (in_files told) number line → ⊥
not_refused told asked can number line refuses = elim refuses [
  | inl own ↦
      no_hindrance (file_kind (limits_of asked.wide)) asked.file [] (λ file. short_meaning file asked.other) (λ file. short_monotone file asked.other) told
      (λ bytes f fault legal found. legal.no_fault fault found) can.file number line can.is_file own
  | inr r ↦
      let same : can.file ≡ r.0 = one_file (limits_of asked.wide) told asked.file can.file r.0 can.is_file r.1 in
      let is_run : FileMeans (long_kind r.0) (in_files told) asked.other can.run = subst
      (λ (f : File). FileMeans (long_kind f) (in_files told) asked.other can.run) same can.is_run in
      elim r.2 [
        | inl own ↦
            no_hindrance (long_kind r.0) asked.other [] (λ run. replies [] (SaysShort r.0 run)) (λ run. replies_monotone [] (SaysShort r.0 run)) told
            (λ bytes run fault able found. found.compresses_nothing run able) can.run number line is_run own
        | inr s ↦ s.2
      ]
]

-- a run whose guards leave the range cannot be compressed
cannot : (told : Told) (asked : TwoNames) (line : ℕ) (l : LeavesRange told asked line) (run : Run) → Compresses l.file l.bytes run → ⊥
cannot told asked line l run able =
    let same = texts_once.run l.file l.bytes run l.run able.text l.text in
    let still : Compressible l.file l.run = subst (λ (r : Run). Compressible l.file r) same able.able in
    refusals_once.none l.file l.run (Replay (Overflow line)) (λ e. cc) l.text.fits still
    (inr (record { replayed = l.replayed; few = l.few; line = line; is = refl; leaves = l.leaves }))

-- it is refused with 4, and the line says where
pub refused_outside : (told : Told) (asked : TwoNames) (line : ℕ) → LeavesRange told asked line
    → (compress_meaning asked).refuses (in_files told) 4 (out_of_range_line asked.other line)
refused_outside told asked line l = inr (
  l.file,
  l.is_file,
  inl (record {
    numbered = refl;
    words = _;
    said = refl;
    wrong = inr (inl (record {
      bytes = l.bytes;
      had = l.had;
      fault = Replay (Overflow line);
      found = record {
        no_memory = λ e. cc;
        first = inr (record {
          run = l.run;
          text = l.text;
          first = inr (record { replayed = l.replayed; few = l.few; line = line; is = refl; leaves = l.leaves });
        });
        compresses_nothing = cannot told asked line l;
      };
      words_are = refl;
    }));
  }),
)

module _ (number : ℕ) (before after : State) (asked : TwoNames) (performs : Performs (compress_meaning asked) number before after)
    (told : Told) (is : before.shelf.files ≡ Some told) where
  pub answers_so : CanCompress told asked → (number ≡ 0) ⊎ ((number ≡ 6) ⊎ (number ≡ 7))
  answers_so can = elim performs.ends.end [
    | Done a ↦ inl (a.numbered ∙ a.holds.holds.2.2.writes.numbered)
    | Stopped s ↦ absurd (not_refused told asked can number s.line
        ((compress_decides asked).refuses told performs.ends.read number s.line
        (subst (λ (files : Option Told). (compress_meaning asked).refuses (seen files performs.ends.read) number s.line) is s.holds)))
    | Unread u ↦ inr (inl u.six)
    | Unbegun u ↦ inr (inl u.six)
    | Unput u ↦ inr (inl u.six)
    | Unwritten u ↦ inr (inl u.six)
    | NoMemory m ↦ inr (inr m.seven)
  ]

  pub refused_so : (line : ℕ) → LeavesRange told asked line → (number ≡ 4) ⊎ ((number ≡ 6) ⊎ (number ≡ 7))
  refused_so line leaves = performs.exact (compress_decides asked) told is 4
      (inr (out_of_range_line asked.other line, refused_outside told asked line leaves))

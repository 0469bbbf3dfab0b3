-- A sample of the parameters of a file, by how the search for it ends
use Rattle.ta_verdict.proofs.Common.{◌≡◌, ℕ, ◌<◌, ◌^◌, ℤ, pos, List, [], ◌∷◌, map, length, refl, sym, ap, subst, ◌∙◌, length-map, AllByRecursion, File}
use Rattle.ta_verdict.proofs.Common.{ReportKind, IsSample, SampleHolds, SamplesAreDetermined, place_of, ReportSample}
use Rattle.ta_counter.specs.Values.{Value}
use Rattle.ta_replay.proofs.Decimals.{value_is}
use Rattle.ta_report.specs.declared.verdict.ReportSample.TheVariants.{Sample, Empty, Spent, Overflow}
use Rattle.ta_walk.specs.declared.end.SampleEnd.{SampleEnd}
use Rattle.ta_walk.specs.Samples.{IsSampleEnd}
use Rattle.ta_walk.proofs.SamplesFound.{found_small, found_starts, sample_ends_once, samples_real}
use Rattle.ta_report.specs.declared.verdict.ReportKind.TheVariants as kind
use Rattle.ta_walk.specs.declared.end.SampleEnd.TheVariants as walk

all_values : (ns : List ℕ) → AllByRecursion (λ n. n < 2 ^ 127) ns → AllByRecursion Value (map pos ns)
all_values [] small = tt
all_values (n ∷ ns) small = (value_is n small.0, all_values ns small.1)

-- values with an initial configuration are a sample
pub found_sample : (file : File) (budget : ℕ) (values : List ℤ) → IsSampleEnd file.automaton budget (walk.Sample values) → IsSample file budget (Sample values)
found_sample file budget values found =
    let a = file.automaton in
    let real = found_starts a budget values found in
    let small = found_small a budget values found in
    let start = real.2 in
    let count : length real.0 ≡ length a.parameters = ap (λ (ps : List ℕ). length ps) (sym start.are) ∙ start.initial.admissible.count in
    record {
      holds = record { parameters = real.0; are = real.1; start = start; found = found };
      fits = (ap (λ (vs : List ℤ). length vs) real.1 ∙ length-map real.0 pos ∙ count, subst (AllByRecursion Value) (sym real.1) (all_values real.0 small));
    }

pub no_sample : (file : File) (budget : ℕ) → IsSampleEnd file.automaton budget walk.Empty → IsSample file budget Empty
no_sample file budget refuted = record { holds = record { none = samples_real.none file.automaton budget refuted; refuted = refuted }; fits = tt }

-- how the search ended of which a sample tells
abbrev end_of : ReportSample → SampleEnd
end_of (Sample values) = walk.Sample values
end_of Empty = walk.Empty
end_of (Spent count) = walk.Spent count
end_of (Overflow node kind) = walk.Overflow node (place_of kind)

is_end : (file : File) (budget : ℕ) (s : ReportSample) → SampleHolds file budget s → IsSampleEnd file.automaton budget (end_of s)
is_end file budget (Sample values) h = h.found
is_end file budget Empty h = h.refuted
is_end file budget (Spent count) h = h
is_end file budget (Overflow node kind) h = h

places_same : (j k : ReportKind) → place_of j ≡ place_of k → j ≡ k
places_same (kind.Pivot m) (kind.Pivot n) e = cc
places_same (kind.Pivot m) kind.Leaf e = absurd (cc)
places_same (kind.Pivot m) kind.Run e = absurd (cc)
places_same kind.Leaf (kind.Pivot n) e = absurd (cc)
places_same kind.Leaf kind.Leaf e = refl
places_same kind.Leaf kind.Run e = absurd (cc)
places_same kind.Run (kind.Pivot n) e = absurd (cc)
places_same kind.Run kind.Leaf e = absurd (cc)
places_same kind.Run kind.Run e = refl

ends_same : (s t : ReportSample) → end_of s ≡ end_of t → s ≡ t
ends_same (Sample vs) (Sample ws) e = cc
ends_same (Sample vs) Empty e = absurd (cc)
ends_same (Sample vs) (Spent n) e = absurd (cc)
ends_same (Sample vs) (Overflow n k) e = absurd (cc)
ends_same Empty (Sample ws) e = absurd (cc)
ends_same Empty Empty e = refl
ends_same Empty (Spent n) e = absurd (cc)
ends_same Empty (Overflow n k) e = absurd (cc)
ends_same (Spent m) (Sample ws) e = absurd (cc)
ends_same (Spent m) Empty e = absurd (cc)
ends_same (Spent m) (Spent n) e = cc
ends_same (Spent m) (Overflow n k) e = absurd (cc)
ends_same (Overflow m j) (Sample ws) e = absurd (cc)
ends_same (Overflow m j) Empty e = absurd (cc)
ends_same (Overflow m j) (Spent n) e = absurd (cc)
ends_same (Overflow m j) (Overflow n k) e =
    let node : m ≡ n = cc in
    let place = places_same j k (cc) in
    ap (λ x. Overflow x j) node ∙ ap (λ i. Overflow n i) place

pub samples_once : SamplesAreDetermined
samples_once file budget s t h k = ends_same s t
    (sample_ends_once file.automaton budget (end_of s) (end_of t) (is_end file budget s h.holds) (is_end file budget t k.holds))

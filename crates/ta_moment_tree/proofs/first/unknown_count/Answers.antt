use Rattle.ta_moment_tree.proofs.Common.{ℕ, ◌∙◌, ◌+◌, ◌*◌, List, length, arith, ap, Meaning, moving_rules}
use Rattle.ta_encode.specs.Unknowns.{start_meanings}
use Rattle.ta_moment_tree.proofs.Beginning.{count_room}
use Rattle.ta_moment_tree.proofs.first.unknown_count.Goals as goal

pub overflow_mul-result : goal.overflow_mul-result
overflow_mul-result c =
    let t = c.args.plan.now.task in
    let moving = ap (λ (rs : List ℕ). length rs) (c.as_slice-moving.ensures.value ∙ c.requires.plan.moving) in
    let starts = ap (λ (ms : List Meaning). length ms) (c.as_slice-starts.ensures ∙ c.requires.plan.starts) in
    let room = count_room t.automaton.now t.pattern.now (length c.args.moments.now) (length c.as_slice-moving.result.now) (length c.as_slice-starts.result.now)
    moving starts (let same = c.requires.moments in let limit = t.over.events_limit in omega arith) in
    let most = room.0 in
    let few = room.1 in
    omega arith

pub overflow_add-result : goal.overflow_add-result
overflow_add-result c =
    let t = c.args.plan.now.task in
    let moving = ap (λ (rs : List ℕ). length rs) (c.as_slice-moving.ensures.value ∙ c.requires.plan.moving) in
    let starts = ap (λ (ms : List Meaning). length ms) (c.as_slice-starts.ensures ∙ c.requires.plan.starts) in
    let room = count_room t.automaton.now t.pattern.now (length c.args.moments.now) (length c.as_slice-moving.result.now) (length c.as_slice-starts.result.now)
    moving starts (let same = c.requires.moments in let limit = t.over.events_limit in omega arith) in
    let most = room.0 in
    let few = room.1 in
    omega arith

pub returns-clause-few : goal.returns-clause-few
returns-clause-few c =
    let t = c.args.plan.now.task in
    let moving = ap (λ (rs : List ℕ). length rs) (c.as_slice-moving.ensures.value ∙ c.requires.plan.moving) in
    let starts = ap (λ (ms : List Meaning). length ms) (c.as_slice-starts.ensures ∙ c.requires.plan.starts) in
    let room = count_room t.automaton.now t.pattern.now (length c.args.moments.now) (length c.as_slice-moving.result.now) (length c.as_slice-starts.result.now)
    moving starts (let same = c.requires.moments in let limit = t.over.events_limit in omega arith) in
    let most = room.0 in
    let few = room.1 in
    omega arith

pub returns-clause-value : goal.returns-clause-value
returns-clause-value c =
    let t = c.args.plan.now.task in
    let moving = ap (λ (rs : List ℕ). length rs) (c.as_slice-moving.ensures.value ∙ c.requires.plan.moving) in
    let starts = ap (λ (ms : List Meaning). length ms) (c.as_slice-starts.ensures ∙ c.requires.plan.starts) in
    let room = count_room t.automaton.now t.pattern.now (length c.args.moments.now) (length c.as_slice-moving.result.now) (length c.as_slice-starts.result.now)
    moving starts (let same = c.requires.moments in let limit = t.over.events_limit in omega arith) in
    let most = room.0 in
    let few = room.1 in
    ap (λ n. n + length c.args.moments.now * length c.as_slice-moving.result.now) starts
    ∙ ap (λ m. length (start_meanings t.automaton.now t.pattern.now) + length c.args.moments.now * m) moving
    ∙ ap (λ n. length (start_meanings t.automaton.now t.pattern.now) + n * length (moving_rules t.automaton.now t.pattern.now)) c.requires.moments

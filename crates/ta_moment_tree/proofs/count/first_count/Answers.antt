use Rattle.ta_moment_tree.proofs.Common.{◌≡◌, ◌+◌, ◌*◌, ◌<◌, ◌≤◌, ◌^◌, length, arith, ap, refl, ◌∙◌, moving_rules}
use Rattle.ta_encode.specs.Unknowns.{start_meanings}
use Rattle.ta_moment_tree.proofs.Beginning.{count_room}
use Rattle.ta_moment_tree.proofs.count.first_count.Goals.{After-moving_count}
use Rattle.ta_moment_tree.proofs.count.first_count.Goals as goal

value : (c : After-moving_count) → c.start_count-starts.result + length c.as_slice.result.now * c.moving_count.result ≡ length
    (start_meanings c.args.task.automaton.now c.args.task.pattern.now) + length c.args.task.pattern.now.events * length
    (moving_rules c.args.task.automaton.now c.args.task.pattern.now)
value c =
    let a = c.args.task.automaton.now in
    let p = c.args.task.pattern.now in
    ap (λ n. n + length c.as_slice.result.now * c.moving_count.result) c.start_count-starts.ensures.value
    ∙ ap (λ n. length (start_meanings a p) + n * c.moving_count.result) (ap length c.as_slice.ensures)
    ∙ ap (λ n. length (start_meanings a p) + length p.events * n) c.moving_count.ensures.value

few : (c : After-moving_count) → c.start_count-starts.result + length c.as_slice.result.now * c.moving_count.result ≤ 8352
few c =
    let a = c.args.task.automaton.now in
    let p = c.args.task.pattern.now in
    let room = count_room a p (length p.events) (length (moving_rules a p)) (length (start_meanings a p)) refl refl c.args.task.over.events_limit in
    let most = room.0 in
    let begun = room.1 in
    omega (arith, value c, most, begun)

pub overflow_add-result : goal.overflow_add-result
overflow_add-result c = (let most = few c in
    let small : c.start_count-starts.result + length c.as_slice.result.now * c.moving_count.result < 2 ^ 32 = omega arith in record { fits = small })

pub returns-clause-value : goal.returns-clause-value
returns-clause-value c = value c

pub returns-clause-few : goal.returns-clause-few
returns-clause-few c = few c

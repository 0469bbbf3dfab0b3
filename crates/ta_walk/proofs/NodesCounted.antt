-- how many nodes parts of a visit begin
use Rattle.ta_walk.proofs.Common.{nat_tests, ◌≡◌, ℕ, ◌+◌, ◌*◌, ◌-◌, ◌<◌, ◌≤◌, cond_both, nat_lt, arith, IfOk, Ok, IsCounted, Rose, RoseBy, TreeEnd, behind}
use Rattle.ta_walk.proofs.Common.{most_begun, node_count, Result, Err}
use Rattle.std.proofs.Math.Nat.{add-mul}
use Rattle.std.proofs.lemmas.Nat.{mul-le}
use Rattle.ta_walk.specs.declared.end.TreeEnd.TheVariants as tree

-- a visit that came to an end behind some nodes has this total, within the budget
record TotalBehind (budget count more total : ℕ) : Type 0 where
  within : total ≤ budget
  few : total ≤ count + more
  most : count + more ≤ total + budget
  fits : more ≤ budget - count → total ≡ count + more

spent_total : (budget count more : ℕ) → count ≤ budget → more ≤ budget → budget - count < more → TotalBehind budget count more budget
spent_total budget count more within fits many = record { within = omega arith; few = omega arith; most = omega arith; fits = λ fewer. omega arith }

shifted_total : (budget count more : ℕ) → count ≤ budget → more ≤ budget - count → TotalBehind budget count more (count + more)
shifted_total budget count more within few = record { within = omega arith; few = omega arith; most = omega arith; fits = λ fewer. omega arith }

total_behind : {E : Type 0} (budget count leaves : ℕ) (end : TreeEnd E) → count ≤ budget → node_count end ≤ budget
    → TotalBehind budget count (node_count end) (node_count (behind budget count leaves end))
total_behind budget count leaves (tree.Refuted more others) within fits =
    cond_both (nat_lt (budget - count) more) (tree.Spent budget) (tree.Refuted (count + more) (leaves + others))
    (λ e. TotalBehind budget count more (node_count e))
    (λ yes'. spent_total budget count more within fits (grind (arith, nat_tests)))
    (λ no'. shifted_total budget count more within (grind (arith, nat_tests)))
total_behind budget count leaves (tree.Found more start facts values) within fits =
    cond_both (nat_lt (budget - count) more) (tree.Spent budget) (tree.Found (count + more) start facts values)
    (λ e. TotalBehind budget count more (node_count e))
    (λ yes'. spent_total budget count more within fits (grind (arith, nat_tests)))
    (λ no'. shifted_total budget count more within (grind (arith, nat_tests)))
total_behind budget count leaves (tree.Spent more) within fits =
    cond_both (nat_lt (budget - count) more) (tree.Spent budget) (tree.Spent (count + more)) (λ e. TotalBehind budget count more (node_count e))
    (λ yes'. spent_total budget count more within fits (grind (arith, nat_tests)))
    (λ no'. shifted_total budget count more within (grind (arith, nat_tests)))
total_behind budget count leaves (tree.Overflow more kind) within fits =
    cond_both (nat_lt (budget - count) more) (tree.Spent budget) (tree.Overflow (count + more) kind) (λ e. TotalBehind budget count more (node_count e))
    (λ yes'. spent_total budget count more within fits (grind (arith, nat_tests)))
    (λ no'. shifted_total budget count more within (grind (arith, nat_tests)))

-- the halves of a fork, and the fork itself
three_forks : (low high budget : ℕ) → (low + high + 1) * budget ≡ low * budget + high * budget + budget
three_forks low high budget = omega (arith, add-mul (low + high) 1 budget, add-mul low high budget)

pub counted_more : {E : Type 0} (budget few many : ℕ) (end : TreeEnd E) (begun : ℕ) → few ≤ many → IsCounted budget few end begun
    → IsCounted budget many end begun
counted_more budget few many end begun fewer is =
    let grows = mul-le few budget many budget fewer (omega arith) in
    let most = is.most in
    record { within = is.within; least = is.least; most = omega arith }

-- a first half that decides
pub counted_first : {E : Type 0} (budget low high : ℕ) (first second : TreeEnd E) (one other begun : ℕ) → budget ≤ 1000000000
    → IsCounted budget low first one → IsCounted budget high second other → RoseBy one other begun → IsCounted budget (low + high + 1) first begun
counted_first budget low high first second one other begun limit is beside rose =
    let forks = three_forks low high budget in
    let few = is.within in
    let some = is.least in
    let most = is.most in
    let others = beside.within in
    let many = beside.most in
    record { within = is.within; least = omega arith; most = omega arith }

-- two halves of a fork, of which the first is refuted
pub counted_both : {E : Type 0} (budget low high count leaves : ℕ) (end : TreeEnd E) (one other begun : ℕ) → budget ≤ 1000000000
    → IsCounted {E = E} budget low (tree.Refuted count leaves) one → IsCounted budget high end other → RoseBy one other begun
    → IsCounted budget (low + high + 1) (behind budget count leaves end) begun
counted_both budget low high count leaves end one other begun limit is behind_ rose =
    let forks = three_forks low high budget in
    let total = total_behind budget count leaves end is.within behind_.within in
    let within = total.within in
    let few = total.few in
    let most = total.most in
    let first_some = is.least in
    let first_most = is.most in
    let some = behind_.least in
    let many = behind_.most in
    record { within = total.within; least = omega arith; most = omega arith }

-- a part that is visited after a refuted one
pub counted_after : {E : Type 0} (budget low high forks count leaves : ℕ) (end : TreeEnd E) (one other begun : ℕ) → budget ≤ 1000000000 → low + high ≤ forks
    → IsCounted {E = E} budget low (tree.Refuted count leaves) one → IsCounted (budget - count) high end other → RoseBy one other begun
    → IsCounted budget forks (behind budget count leaves end) begun
counted_after budget low high forks count leaves end one other begun limit fewer is after rose =
    let grows = mul-le (low + high) budget forks budget fewer (omega arith) in
    let sum = add-mul low high budget in
    let left = mul-le high (budget - count) high budget (omega arith) (omega arith) in
    let here : count ≤ budget = is.within in
    let rest = after.within in
    let total = total_behind budget count leaves end here (omega arith) in
    let within = total.within in
    let is_sum = total.fits rest in
    let first_some = is.least in
    let first_most = is.most in
    let some = after.least in
    let many = after.most in
    record { within = total.within; least = omega arith; most = omega arith }

-- a part that one thread visits begins the nodes of its end
pub counted_alone : {E : Type 0} (budget forks : ℕ) (end : TreeEnd E) (old begun : ℕ) → budget ≤ 1000000000 → old ≡ 0 → node_count end ≤ budget
    → RoseBy old (node_count end) begun → IsCounted budget forks end begun
counted_alone budget forks end old begun limit none within rose = record { within = within; least = omega arith; most = omega arith }

-- a part behind nodes that one thread visited
pub counted_shared : {E : Type 0} (budget forks count leaves : ℕ) (end : TreeEnd E) (old one other begun : ℕ) → budget ≤ 1000000000 → old ≡ 0 → count ≤ budget
    → RoseBy old count one → IsCounted (budget - count) forks end other → RoseBy one other begun → IsCounted budget forks (behind budget count leaves end) begun
counted_shared {E} budget forks count leaves end old one other begun limit none within first after rose =
    counted_after budget 0 forks forks count leaves end one other begun limit (omega arith)
    (counted_alone {E = E} budget 0 (tree.Refuted count leaves) old one limit none within first) after rose

-- what two facts of an answer say together
pub ok_both : {A F : Type 0} (r : Result A F) (P Q R : A → Type 0) → ((x : A) → P x → Q x → R x) → IfOk r P → IfOk r Q → IfOk r R
ok_both (Ok x) P Q R on p q = on x p q
ok_both (Err e) P Q R on p q = tt

-- one more node
pub rose_next : (old before mid new : ℕ) → RoseBy old before mid → RoseBy mid 1 new → RoseBy old (before + 1) new
rose_next old before mid new so one = omega arith

-- a visit whose parts are counted
pub counted_visit : {E : Type 0} (budget forks most : ℕ) (end : TreeEnd E) (old begun new : ℕ) → forks ≤ most → IsCounted budget forks end begun
    → RoseBy old begun new → Rose old new (node_count end) ((most + 1) * budget)
counted_visit budget forks most end old begun new fewer is rose =
    let grows = mul-le forks budget most budget fewer (omega arith) in
    let sum = add-mul most 1 budget in
    let within = is.within in
    let some = is.least in
    let many = is.most in
    record { least = omega arith; most = omega arith }

-- whatever end it has
pub rose_any : (old new low high : ℕ) → Rose old new low high → Rose old new 0 high
rose_any old new low high rose =
    let low' = rose.least in
    record { least = omega arith; most = rose.most }

pub counted_once : {E : Type 0} (budget forks : ℕ) (end : TreeEnd E) (old begun new : ℕ) → forks ≡ 0 → IsCounted budget forks end begun → RoseBy old begun new
    → new ≤ old + budget
counted_once budget forks end old begun new none is rose =
    let nothing = mul-le forks budget 0 budget (omega arith) (omega arith) in
    let within = is.within in
    let many = is.most in
    omega arith

-- a first pass, and a second one
pub rose_first : (budget old new low : ℕ) → Rose old new low ((65534 + 1) * budget) → Rose old new low (most_begun budget)
rose_first budget old new low rose =
    let least = rose.least in
    let most = rose.most in
    record { least = least; most = omega arith }

pub rose_twice : (budget old mid new low high : ℕ) → Rose old mid 0 ((65534 + 1) * budget) → Rose mid new low high → new ≤ mid + budget
    → Rose old new low (most_begun budget)
rose_twice budget old mid new low high first second once =
    let before = first.least in
    let few = first.most in
    let least = second.least in
    record { least = omega arith; most = omega arith }

-- `replays::work` meets its contract: the steps, and then the end.
-- Assumes nothing.
use mathlib.Core.Path.{◌≡◌, refl, ◌∙◌, ap, subst}
use mathlib.Core.List.{List}
use Prim.Native.Nat.{ℕ, ◌+◌, ◌*◌, ◌-◌, ◌≤◌}
use native.Mathlib.Omega.{arith}
use lib.IntN.{ℤ}
use lib.ListN.{length, take, drop, length-drop}
use lib.Seq.{length-take-le}
use Rattle.rules.specs.Limits.{column_count}
use Rattle.std.proofs.lemmas.Result.{err_from_is_err_and}
use Rattle.refusals.specs.Refusals.{number-nonzero}
use Rattle.reduction.specs.Answer.{told, progress_at, run_answer}
use Rattle.reduction.specs.Progress.{state_of}
use Rattle.log_steps.specs.Logs.{step_length, numbers_in, ordered, log_need}
use Rattle.replays.specs.Endings.{Ended}
use Rattle.replays.specs.ReplayWork.{work-refused, work-ended}
use Rattle.replays.proofs.work.Goals as goal
use Rattle.replays.proofs.work.Goals.{Start}

-- the arguments
module _ (c : Start) where
  abbrev log : List ℤ
  log = c.args.log.now

  abbrev steps : ℕ
  steps = c.args.steps

  room : steps * step_length + column_count ≤ length log
  unfolding log_need
  room = c.requires.m_le_column_count.1

  numbers-are : (n : ℕ) → n ≡ column_count → take n (drop (steps * step_length) log) ≡ numbers_in steps log
  unfolding numbers_in
  numbers-are n e = ap (λ k. take k (drop (steps * step_length) log)) e

  numbers-long : length (numbers_in steps log) ≡ column_count
  unfolding numbers_in
  numbers-long = length-take-le column_count (drop (steps * step_length) log) (simp length-drop (omega (arith, room)))

pub replay_steps-requires : goal.replay_steps-requires
replay_steps-requires c =
    let s = (goal.at.replay_steps-requires c).Start in record {
      ready = s.requires.ready;
      steps_in_bounds = omega (arith, room s);
    }

pub returns-in_err-p : goal.returns-in_err-p
returns-in_err-p c =
    let s = (goal.at.returns-in_err-p c).Start in
    let exit = err_from_is_err_and c.from_residual.result c.from_residual.ensures.1 in
    let came = c.in_err-p.ensures in
    rw (exit.1, exit.2) (work-refused (ordered s.args.m (numbers_in (steps s) (log s))) came (number-nonzero c.in_err-p.field-0.0.refusal))

pub overflow_mul-from : goal.overflow_mul-from
overflow_mul-from c =
    omega (arith, c.requires.ready.4)

pub overflow_add-to : goal.overflow_add-to
overflow_add-to c =
    omega (arith, c.requires.ready.4)

pub offset_bounds-log-from : goal.offset_bounds-log-from
offset_bounds-log-from c =
    omega (arith, c.requires.ready.4)

pub slice_bounds-finish-start : goal.slice_bounds-finish-start
slice_bounds-finish-start c =
    let s = (goal.at.slice_bounds-finish-start c).Start in omega (arith, room s)

pub slice_bounds-finish-end : goal.slice_bounds-finish-end
slice_bounds-finish-end c =
    let s = (goal.at.slice_bounds-finish-end c).Start in omega (arith, room s)

pub finish-requires : goal.finish-requires
finish-requires c =
    let s = (goal.at.finish-requires c).Start in
    let made = c.in_ok-p.ensures in
    let width : steps s * step_length + column_count - steps s * step_length ≡ column_count = omega arith in (
      record { few-rows = made.reached.ready.few-rows; rows-within = made.reached.ready.rows-within; unsettled = made.unsettled },
      s.requires.m_le_column_count.0,
      ap length (numbers-are s (steps s * step_length + column_count - steps s * step_length) width) ∙ numbers-long s,
    )

pub returns : goal.returns
returns c =
    let s = (goal.at.returns c).Start in
    let p = c.in_ok-p.p in
    let rows = c.replay_steps.new.rows in
    let relations = c.replay_steps.new.relations in
    let made = c.in_ok-p.ensures in
    let width : steps s * step_length + column_count - steps s * step_length ≡ column_count = omega arith in
    work-ended (ordered s.args.m (numbers_in (steps s) (log s))) made refl
    (subst (λ l. Ended rows relations p (run_answer (told c.finish.result) (progress_at c.finish.result)) (ordered s.args.m l (state_of rows relations p)))
    (numbers-are s (steps s * step_length + column_count - steps s * step_length) width)
    (c.finish.ensures relations made.reached.ready))

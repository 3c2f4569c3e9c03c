-- `answers::answer_in` meets its contract: a refusal is told by its number.
use Rattle.std.proofs.Common.{ap, ◌∙◌}
use Rattle.answers.specs.Answers.{AnswerCall, call_of}
use Rattle.answers.proofs.answer_in.Goals as goal

pub returns-in-Ok : goal.returns-in-Ok
unfolding call_of
returns-in-Ok c = record { output_after = c.in-Ok.ensures.output_after; rows_unchanged = c.in-Ok.ensures.rows_unchanged }

pub returns-in-Err : goal.returns-in-Err
unfolding call_of
returns-in-Err c = record {
  output_after = ap (λ a. call_of a c.worked_out.new.output) c.no_answer.ensures
      ∙ ap (λ n. record { refusal = n; length = 0; store = c.worked_out.new.output }) c.number.ensures
      ∙ c.in-Err.ensures.output_after;
  rows_unchanged = c.in-Err.ensures.rows_unchanged;
}

-- Successive runs on stores: from a prepared state, any division of the budget gives the same end, and the whole run is the run to
-- the end (SCOPE 11.5, 11.6).
--
-- Main definitions
--   added_steps n c           the call with n steps more before its own
--   call_continued budget c   the next call, on what c has left; a refused call stays as it is
--   calls_in_parts ks c        calls with the budgets ks, one after the other
--   whole_call c              the call of a whole run that has the same result and leaves the same
use Prim.Native.Nat.{ℕ, zero, suc, ◌+◌}
use mathlib.Core.List.{List, [], ◌∷◌}
use Rattle.rules.specs.Calls.{Call}
use Rattle.steps.specs.HeldCalls.{StepsCall}
use Rattle.steps.specs.HeldCalls.{steps_call}

-- ---- one call after another

unfoldable pub added_steps : ℕ → StepsCall → StepsCall
added_steps n c =
    record {
      result = record {
        steps = n + c.result.steps;
        finished = c.result.finished;
        state = c.result.state;
        run = c.result.run;
      };
      row_store = c.row_store;
      relation_store = c.relation_store;
    }

unfoldable pub unless_refused : ℕ → StepsCall → ℕ → StepsCall
unfolding added_steps steps_call
unless_refused budget c zero = added_steps c.result.steps (steps_call budget c.result.state c.row_store c.relation_store)
unless_refused budget c (suc n) = c

unfoldable pub call_continued : ℕ → StepsCall → StepsCall
unfolding unless_refused
call_continued budget c = unless_refused budget c c.result.run.refusal

unfoldable pub calls_in_parts : List ℕ → StepsCall → StepsCall
unfolding call_continued
calls_in_parts [] c = c
calls_in_parts (k ∷ ks) c = calls_in_parts ks (call_continued k c)

-- The result of a whole run, and the stores.
unfoldable pub whole_call : StepsCall → Call
whole_call c = record { result = c.result.run; row_store = c.row_store; relation_store = c.relation_store }

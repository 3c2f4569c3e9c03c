-- `reading::order::order_column_at` meets its contract: the number is a field, judged by its rule.
-- Assumes nothing.
use Rattle.std.proofs.Common.{rules}
use Rattle.rules.specs.Sheets.{judge_order_of}
use Rattle.reading.specs.OrderLine.{taken_of}
use Rattle.reading.proofs.order.order_column_at.Goals as goal

pub returns : goal.returns
returns c = c.field_at.ensures (judge_order_of c.args.m (taken_of c.args.order.now c.args.taken)) (λ v fits r post. search rules)

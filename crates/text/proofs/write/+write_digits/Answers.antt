-- The digits before the last stand written by the call of itself, and the last goes behind them (`Writing`, "digits").
use Rattle.text.proofs.Writing.{digits_more}
use Rattle.text.proofs.write.+write_digits.Goals as goal

pub returns : goal.returns
returns t c =
    digits_more _ _ _ _ c.if-f-eq0.false c.if-n-lt10.false c.write_digits-end.ensures c.write_byte-2.ensures

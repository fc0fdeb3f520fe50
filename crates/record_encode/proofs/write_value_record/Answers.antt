use Rattle.record_encode.proofs.write_value_record.Goals as goal

pub returns-in-Numeric : goal.returns-in-Numeric
returns-in-Numeric c = rw c.in-Numeric.is c.write_numeric.ensures

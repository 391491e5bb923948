use Rattle.std.proofs.Common.{inl, inr}
use Rattle.job_arguments.proofs.arguments.limits_of.Goals as goal

pub returns-in_err-metadata-clause-none : goal.returns-in_err-metadata-clause-none
returns-in_err-metadata-clause-none c = λ is. inl (c.number_option.ensures.none c.in_err-metadata.was)

pub returns-in_err-body-clause-none : goal.returns-in_err-body-clause-none
returns-in_err-body-clause-none c = λ is. inr (inl (c.number_option-2.ensures.none c.in_err-body.was))

pub returns-in_err-rows-clause-none : goal.returns-in_err-rows-clause-none
returns-in_err-rows-clause-none c = λ is. inr (inr (inl (c.number_option-3.ensures.none c.in_err-rows.was)))

pub returns-in_err-fields-clause-none : goal.returns-in_err-fields-clause-none
returns-in_err-fields-clause-none c = λ is. inr (inr (inr (inl (c.number_option-4.ensures.none c.in_err-fields.was))))

pub returns-in_err-depth-clause-none : goal.returns-in_err-depth-clause-none
returns-in_err-depth-clause-none c = λ is. inr (inr (inr (inr (inl (c.number_option-5.ensures.none c.in_err-depth.was)))))

pub returns-in_err-text-clause-none : goal.returns-in_err-text-clause-none
returns-in_err-text-clause-none c = λ is. inr (inr (inr (inr (inr (inl (c.number_option-6.ensures.none c.in_err-text.was))))))

pub returns-in_err-pairs-clause-none : goal.returns-in_err-pairs-clause-none
returns-in_err-pairs-clause-none c = λ is. inr (inr (inr (inr (inr (inr (c.number_option-7.ensures.none c.in_err-pairs.was))))))

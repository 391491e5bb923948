use Rattle.job_print.proofs.printing.print_expected.Goals as goal

pub returns-in-Ok-Whole-clause-reports : goal.returns-in-Ok-Whole-clause-reports
returns-in-Ok-Whole-clause-reports g c = λ limits start o.
    rw c.in-Ok-Whole.field-0-is at (c.in-Ok-Whole.ensures.reports limits start o)

pub returns-in-Ok-Limited-clause-reports : goal.returns-in-Ok-Limited-clause-reports
returns-in-Ok-Limited-clause-reports g c = λ limits start o.
    rw c.in-Ok-Limited.field-0-is at (c.in-Ok-Limited.ensures.reports limits start o)

pub returns-in-Ok-Broken-clause-reports : goal.returns-in-Ok-Broken-clause-reports
returns-in-Ok-Broken-clause-reports g c = λ limits start o.
    rw c.in-Ok-Broken.field-0-is at (c.in-Ok-Broken.ensures.reports limits start o)

pub returns-in-Ok-Refused-clause-reports : goal.returns-in-Ok-Refused-clause-reports
returns-in-Ok-Refused-clause-reports g c = λ limits start o.
    rw c.in-Ok-Refused.field-0-is at (c.in-Ok-Refused.ensures.reports limits start o)

pub returns-in-Ok-Held-clause-reports : goal.returns-in-Ok-Held-clause-reports
returns-in-Ok-Held-clause-reports g c = λ limits start o.
    rw c.in-Ok-Held.field-0-is at (c.in-Ok-Held.ensures.reports limits start o)

pub returns-in-Ok-Whole-clause-held : goal.returns-in-Ok-Whole-clause-held
returns-in-Ok-Whole-clause-held g c = λ limits start h.
    rw c.in-Ok-Whole.field-0-is at (c.in-Ok-Whole.ensures.held limits start h)

pub returns-in-Ok-Limited-clause-held : goal.returns-in-Ok-Limited-clause-held
returns-in-Ok-Limited-clause-held g c = λ limits start h.
    rw c.in-Ok-Limited.field-0-is at (c.in-Ok-Limited.ensures.held limits start h)

pub returns-in-Ok-Broken-clause-held : goal.returns-in-Ok-Broken-clause-held
returns-in-Ok-Broken-clause-held g c = λ limits start h.
    rw c.in-Ok-Broken.field-0-is at (c.in-Ok-Broken.ensures.held limits start h)

pub returns-in-Ok-Refused-clause-held : goal.returns-in-Ok-Refused-clause-held
returns-in-Ok-Refused-clause-held g c = λ limits start h.
    rw c.in-Ok-Refused.field-0-is at (c.in-Ok-Refused.ensures.held limits start h)

pub returns-in-Ok-Held-clause-held : goal.returns-in-Ok-Held-clause-held
returns-in-Ok-Held-clause-held g c = λ limits start h.
    rw c.in-Ok-Held.field-0-is at (c.in-Ok-Held.ensures.held limits start h)

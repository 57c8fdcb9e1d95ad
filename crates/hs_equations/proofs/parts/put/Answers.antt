use Rattle.hs_equations.proofs.parts.put.Goals as goal

pub returns-in-Stays : goal.returns-in-Stays
returns-in-Stays c = c.hold.ensures

pub returns-in-Wakes : goal.returns-in-Wakes
returns-in-Wakes c = c.wake.ensures

pub returns-in-Goes : goal.returns-in-Goes
returns-in-Goes c = λ s h m. h

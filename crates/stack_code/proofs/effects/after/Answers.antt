use Rattle.stack_code.proofs.effects.after.Goals as goal

pub returns-in-Two-clause-list : goal.returns-in-Two-clause-list
returns-in-Two-clause-list c = rw c.in-Two.is c.replace_two.ensures.list

pub returns-in-Load-clause-list : goal.returns-in-Load-clause-list
returns-in-Load-clause-list c = rw c.in-Load.is c.push_local.ensures.list

pub returns-in-Store-clause-list : goal.returns-in-Store-clause-list
returns-in-Store-clause-list c = rw c.in-Store.is c.pop_local.ensures

pub returns-in-Drop-clause-list : goal.returns-in-Drop-clause-list
returns-in-Drop-clause-list c = rw c.in-Drop.is c.pop_one.ensures

pub returns-in-Part-clause-list : goal.returns-in-Part-clause-list
returns-in-Part-clause-list c = rw c.in-Part.is c.load_part.ensures.list

pub returns-in-SetPart-clause-list : goal.returns-in-SetPart-clause-list
returns-in-SetPart-clause-list c = rw c.in-SetPart.is c.store_part.ensures

pub returns-in-Site-clause-list : goal.returns-in-Site-clause-list
returns-in-Site-clause-list c = rw c.in-Site.is c.replace_top.ensures.list

pub returns-in-Same-clause-list : goal.returns-in-Same-clause-list
returns-in-Same-clause-list c = rw c.in-Same.is c.replace_top-in-Same.ensures.list

pub returns-in-Double-clause-list : goal.returns-in-Double-clause-list
returns-in-Double-clause-list c = rw c.in-Double.is c.push_again.ensures.list

pub returns-in-PartAt-clause-list : goal.returns-in-PartAt-clause-list
returns-in-PartAt-clause-list c = rw c.in-PartAt.is c.load_element.ensures.list

pub returns-in-SetPartAt-clause-list : goal.returns-in-SetPartAt-clause-list
returns-in-SetPartAt-clause-list c = rw c.in-SetPartAt.is c.store_element.ensures

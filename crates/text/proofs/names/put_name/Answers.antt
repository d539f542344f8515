-- `put_name` meets its contract. Assumes nothing.
use Rattle.text.proofs.Naming.{no_name}
use Rattle.text.proofs.names.put_name.Goals as goal

pub returns : goal.returns
returns c =
    let a = c.args in
    no_name a.rules a.cid a.out.now a.at _ c.name-letters.ensures
    (c.in_default.ensures.cases, c.in_default-as_array.ensures.cases, c.in_default-as_array-2.ensures.cases, c.in_default-as_array-3.ensures.cases, c.in_default-as_array-4.ensures.cases)

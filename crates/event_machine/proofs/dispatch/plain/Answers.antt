use Rattle.std.proofs.Common.{◌≡◌, ℤ, ◌∷◌, subst, rules}
use Rattle.bit_field.specs.Atom.{AtomValue}
use Rattle.datum.specs.declared.Datum.TheVariants.{Number as ANumber, Atom as AnAtom}
use Rattle.stack_code.specs.Machine.{now}
use Rattle.event_machine.specs.Works.{Works}
use Rattle.event_machine.proofs.dispatch.plain.Goals as goal

pub returns-in-PushNum : goal.returns-in-PushNum
returns-in-PushNum c =
    let p : c.new.result ≡ c.in-PushNum.v = search rules in
    rw c.in-PushNum.is (subst (λ (v : ℤ). Works (now c.args.running.now (ANumber v ∷ c.args.running.now.stack)) c.give.new.running c.give.result) p (c.give.ensures c.args.kind))

pub returns-in-PushAtom : goal.returns-in-PushAtom
returns-in-PushAtom c =
    rw c.in-PushAtom.is (subst (λ (a : AtomValue). Works (now c.args.running.now (AnAtom a ∷ c.args.running.now.stack)) c.give-in-PushAtom.new.running c.give-in-PushAtom.result) c.new-in-PushAtom.ensures (c.give-in-PushAtom.ensures c.args.kind))

pub returns-in-LoadLocal : goal.returns-in-LoadLocal
returns-in-LoadLocal c = rw c.in-LoadLocal.is (c.load.ensures c.args.kind)

pub returns-in-StoreLocal : goal.returns-in-StoreLocal
returns-in-StoreLocal c = rw c.in-StoreLocal.is (c.store.ensures c.args.kind)

pub returns-in-Pop : goal.returns-in-Pop
returns-in-Pop c = rw c.in-Pop.is (c.drop_top.ensures c.args.kind)

pub returns-in-LoadPart : goal.returns-in-LoadPart
returns-in-LoadPart c = rw c.in-LoadPart.is (c.load_part.ensures c.args.kind)

pub returns-in-StorePart : goal.returns-in-StorePart
returns-in-StorePart c = rw c.in-StorePart.is (c.store_part.ensures c.args.kind)

pub returns-in-LoadSite : goal.returns-in-LoadSite
returns-in-LoadSite c = rw c.in-LoadSite.is (c.load_site.ensures c.args.kind)

pub returns-in-StoreSite : goal.returns-in-StoreSite
returns-in-StoreSite c = rw c.in-StoreSite.is (c.store_site.ensures c.args.kind)

pub returns-in-Swap : goal.returns-in-Swap
returns-in-Swap c = rw c.in-Swap.is (c.exchange.ensures c.args.kind)

pub returns-in-IsLive : goal.returns-in-IsLive
returns-in-IsLive c = rw c.in-IsLive.is (c.is_live.ensures c.args.kind)

pub returns-in-IsEmpty : goal.returns-in-IsEmpty
returns-in-IsEmpty c = rw c.in-IsEmpty.is (c.is_empty.ensures c.args.kind)

pub returns-in-RandCreate : goal.returns-in-RandCreate
returns-in-RandCreate c = rw c.in-RandCreate.is (c.create.ensures c.args.kind)

pub returns-in-RandOneIn : goal.returns-in-RandOneIn
returns-in-RandOneIn c = rw c.in-RandOneIn.is (c.one_in.ensures c.args.kind)

pub returns-in-IsKind : goal.returns-in-IsKind
returns-in-IsKind c = rw c.in-IsKind.is (c.same.ensures c.args.kind)

pub returns-in-AddI : goal.returns-in-AddI
returns-in-AddI c = rw c.in-AddI.is (c.two.ensures c.args.kind)

pub returns-in-SubI : goal.returns-in-SubI
returns-in-SubI c = rw c.in-SubI.is (c.two-in-SubI.ensures c.args.kind)

pub returns-in-MulI : goal.returns-in-MulI
returns-in-MulI c = rw c.in-MulI.is (c.two-in-MulI.ensures c.args.kind)

pub returns-in-DivI : goal.returns-in-DivI
returns-in-DivI c = rw c.in-DivI.is (c.two-in-DivI.ensures c.args.kind)

pub returns-in-RemI : goal.returns-in-RemI
returns-in-RemI c = rw c.in-RemI.is (c.two-in-RemI.ensures c.args.kind)

pub returns-in-AddU : goal.returns-in-AddU
returns-in-AddU c = rw c.in-AddU.is (c.two-in-AddU.ensures c.args.kind)

pub returns-in-SubU : goal.returns-in-SubU
returns-in-SubU c = rw c.in-SubU.is (c.two-in-SubU.ensures c.args.kind)

pub returns-in-MulU : goal.returns-in-MulU
returns-in-MulU c = rw c.in-MulU.is (c.two-in-MulU.ensures c.args.kind)

pub returns-in-DivU : goal.returns-in-DivU
returns-in-DivU c = rw c.in-DivU.is (c.two-in-DivU.ensures c.args.kind)

pub returns-in-RemU : goal.returns-in-RemU
returns-in-RemU c = rw c.in-RemU.is (c.two-in-RemU.ensures c.args.kind)

pub returns-in-NegI : goal.returns-in-NegI
returns-in-NegI c = rw c.in-NegI.is (c.one.ensures c.args.kind)

pub returns-in-And : goal.returns-in-And
returns-in-And c = rw c.in-And.is (c.two-in-And.ensures c.args.kind)

pub returns-in-Or : goal.returns-in-Or
returns-in-Or c = rw c.in-Or.is (c.two-in-Or.ensures c.args.kind)

pub returns-in-Xor : goal.returns-in-Xor
returns-in-Xor c = rw c.in-Xor.is (c.two-in-Xor.ensures c.args.kind)

pub returns-in-NotW : goal.returns-in-NotW
returns-in-NotW c = rw c.in-NotW.is (c.one-in-NotW.ensures c.args.kind)

pub returns-in-Shl : goal.returns-in-Shl
returns-in-Shl c = rw c.in-Shl.is (c.two-in-Shl.ensures c.args.kind)

pub returns-in-Shr : goal.returns-in-Shr
returns-in-Shr c = rw c.in-Shr.is (c.two-in-Shr.ensures c.args.kind)

pub returns-in-Fit : goal.returns-in-Fit
returns-in-Fit c = rw c.in-Fit.is (c.fit.ensures c.args.kind)

pub returns-in-NotB : goal.returns-in-NotB
returns-in-NotB c = rw c.in-NotB.is (c.one-in-NotB.ensures c.args.kind)

pub returns-in-Eq : goal.returns-in-Eq
returns-in-Eq c = rw c.in-Eq.is (c.two-in-Eq.ensures c.args.kind)

pub returns-in-Ne : goal.returns-in-Ne
returns-in-Ne c = rw c.in-Ne.is (c.two-in-Ne.ensures c.args.kind)

pub returns-in-Lt : goal.returns-in-Lt
returns-in-Lt c = rw c.in-Lt.is (c.two-in-Lt.ensures c.args.kind)

pub returns-in-Le : goal.returns-in-Le
returns-in-Le c = rw c.in-Le.is (c.two-in-Le.ensures c.args.kind)

pub returns-in-Gt : goal.returns-in-Gt
returns-in-Gt c = rw c.in-Gt.is (c.two-in-Gt.ensures c.args.kind)

pub returns-in-Ge : goal.returns-in-Ge
returns-in-Ge c = rw c.in-Ge.is (c.two-in-Ge.ensures c.args.kind)

pub returns-in-Dup : goal.returns-in-Dup
returns-in-Dup c = rw c.in-Dup.is (c.double.ensures c.args.kind)

pub returns-in-LoadPartAt : goal.returns-in-LoadPartAt
returns-in-LoadPartAt c = rw c.in-LoadPartAt.is (c.load_part_at.ensures c.args.kind)

pub returns-in-StorePartAt : goal.returns-in-StorePartAt
returns-in-StorePartAt c = rw c.in-StorePartAt.is (c.store_part_at.ensures c.args.kind)

pub returns-in-AddL : goal.returns-in-AddL
returns-in-AddL c = rw c.in-AddL.is (c.two-in-AddL.ensures c.args.kind)

pub returns-in-SubL : goal.returns-in-SubL
returns-in-SubL c = rw c.in-SubL.is (c.two-in-SubL.ensures c.args.kind)

pub returns-in-MulL : goal.returns-in-MulL
returns-in-MulL c = rw c.in-MulL.is (c.two-in-MulL.ensures c.args.kind)

pub returns-in-DivL : goal.returns-in-DivL
returns-in-DivL c = rw c.in-DivL.is (c.two-in-DivL.ensures c.args.kind)

pub returns-in-RemL : goal.returns-in-RemL
returns-in-RemL c = rw c.in-RemL.is (c.two-in-RemL.ensures c.args.kind)

pub returns-in-AddV : goal.returns-in-AddV
returns-in-AddV c = rw c.in-AddV.is (c.two-in-AddV.ensures c.args.kind)

pub returns-in-SubV : goal.returns-in-SubV
returns-in-SubV c = rw c.in-SubV.is (c.two-in-SubV.ensures c.args.kind)

pub returns-in-MulV : goal.returns-in-MulV
returns-in-MulV c = rw c.in-MulV.is (c.two-in-MulV.ensures c.args.kind)

pub returns-in-DivV : goal.returns-in-DivV
returns-in-DivV c = rw c.in-DivV.is (c.two-in-DivV.ensures c.args.kind)

pub returns-in-RemV : goal.returns-in-RemV
returns-in-RemV c = rw c.in-RemV.is (c.two-in-RemV.ensures c.args.kind)

pub returns-in-NegL : goal.returns-in-NegL
returns-in-NegL c = rw c.in-NegL.is (c.one-in-NegL.ensures c.args.kind)

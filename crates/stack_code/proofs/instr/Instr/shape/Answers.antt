use Rattle.std.proofs.Common.{refl}
use Rattle.stack_code.proofs.instr.Instr.shape.Goals as goal

pub returns-in-PushAtom : goal.returns-in-PushAtom
returns-in-PushAtom c = rw c.in-PushAtom.is refl

pub returns-in-LoadLocal : goal.returns-in-LoadLocal
returns-in-LoadLocal c = rw c.in-LoadLocal.is refl

pub returns-in-StoreLocal : goal.returns-in-StoreLocal
returns-in-StoreLocal c = rw c.in-StoreLocal.is refl

pub returns-in-Pop : goal.returns-in-Pop
returns-in-Pop c = rw c.in-Pop.is refl

pub returns-in-LoadSelf : goal.returns-in-LoadSelf
returns-in-LoadSelf c = rw c.in-LoadSelf.is refl

pub returns-in-LoadSite : goal.returns-in-LoadSite
returns-in-LoadSite c = rw c.in-LoadSite.is refl

pub returns-in-StoreSite : goal.returns-in-StoreSite
returns-in-StoreSite c = rw c.in-StoreSite.is refl

pub returns-in-Swap : goal.returns-in-Swap
returns-in-Swap c = rw c.in-Swap.is refl

pub returns-in-IsLive : goal.returns-in-IsLive
returns-in-IsLive c = rw c.in-IsLive.is refl

pub returns-in-IsEmpty : goal.returns-in-IsEmpty
returns-in-IsEmpty c = rw c.in-IsEmpty.is refl

pub returns-in-RandCreate : goal.returns-in-RandCreate
returns-in-RandCreate c = rw c.in-RandCreate.is refl

pub returns-in-RandOneIn : goal.returns-in-RandOneIn
returns-in-RandOneIn c = rw c.in-RandOneIn.is refl

pub returns-in-IsKind : goal.returns-in-IsKind
returns-in-IsKind c = rw c.in-IsKind.is refl

pub returns-in-AddI : goal.returns-in-AddI
returns-in-AddI c = rw c.in-AddI.is refl

pub returns-in-SubI : goal.returns-in-SubI
returns-in-SubI c = rw c.in-SubI.is refl

pub returns-in-MulI : goal.returns-in-MulI
returns-in-MulI c = rw c.in-MulI.is refl

pub returns-in-DivI : goal.returns-in-DivI
returns-in-DivI c = rw c.in-DivI.is refl

pub returns-in-RemI : goal.returns-in-RemI
returns-in-RemI c = rw c.in-RemI.is refl

pub returns-in-AddU : goal.returns-in-AddU
returns-in-AddU c = rw c.in-AddU.is refl

pub returns-in-SubU : goal.returns-in-SubU
returns-in-SubU c = rw c.in-SubU.is refl

pub returns-in-MulU : goal.returns-in-MulU
returns-in-MulU c = rw c.in-MulU.is refl

pub returns-in-DivU : goal.returns-in-DivU
returns-in-DivU c = rw c.in-DivU.is refl

pub returns-in-RemU : goal.returns-in-RemU
returns-in-RemU c = rw c.in-RemU.is refl

pub returns-in-NegI : goal.returns-in-NegI
returns-in-NegI c = rw c.in-NegI.is refl

pub returns-in-And : goal.returns-in-And
returns-in-And c = rw c.in-And.is refl

pub returns-in-Or : goal.returns-in-Or
returns-in-Or c = rw c.in-Or.is refl

pub returns-in-Xor : goal.returns-in-Xor
returns-in-Xor c = rw c.in-Xor.is refl

pub returns-in-NotW : goal.returns-in-NotW
returns-in-NotW c = rw c.in-NotW.is refl

pub returns-in-Shl : goal.returns-in-Shl
returns-in-Shl c = rw c.in-Shl.is refl

pub returns-in-Shr : goal.returns-in-Shr
returns-in-Shr c = rw c.in-Shr.is refl

pub returns-in-NotB : goal.returns-in-NotB
returns-in-NotB c = rw c.in-NotB.is refl

pub returns-in-Eq : goal.returns-in-Eq
returns-in-Eq c = rw c.in-Eq.is refl

pub returns-in-Ne : goal.returns-in-Ne
returns-in-Ne c = rw c.in-Ne.is refl

pub returns-in-Lt : goal.returns-in-Lt
returns-in-Lt c = rw c.in-Lt.is refl

pub returns-in-Le : goal.returns-in-Le
returns-in-Le c = rw c.in-Le.is refl

pub returns-in-Gt : goal.returns-in-Gt
returns-in-Gt c = rw c.in-Gt.is refl

pub returns-in-Ge : goal.returns-in-Ge
returns-in-Ge c = rw c.in-Ge.is refl

pub returns-in-Jump : goal.returns-in-Jump
returns-in-Jump c = rw c.in-Jump.is refl

pub returns-in-JumpFalse : goal.returns-in-JumpFalse
returns-in-JumpFalse c = rw c.in-JumpFalse.is refl

pub returns-in-Turn : goal.returns-in-Turn
returns-in-Turn c = rw c.in-Turn.is refl

pub returns-in-Call : goal.returns-in-Call
returns-in-Call c = rw c.in-Call.is refl

pub returns-in-Return : goal.returns-in-Return
returns-in-Return c = rw c.in-Return.is refl

pub returns-in-ReturnVoid : goal.returns-in-ReturnVoid
returns-in-ReturnVoid c = rw c.in-ReturnVoid.is refl

pub returns-in-AddL : goal.returns-in-AddL
returns-in-AddL c = rw c.in-AddL.is refl

pub returns-in-SubL : goal.returns-in-SubL
returns-in-SubL c = rw c.in-SubL.is refl

pub returns-in-MulL : goal.returns-in-MulL
returns-in-MulL c = rw c.in-MulL.is refl

pub returns-in-DivL : goal.returns-in-DivL
returns-in-DivL c = rw c.in-DivL.is refl

pub returns-in-RemL : goal.returns-in-RemL
returns-in-RemL c = rw c.in-RemL.is refl

pub returns-in-AddV : goal.returns-in-AddV
returns-in-AddV c = rw c.in-AddV.is refl

pub returns-in-SubV : goal.returns-in-SubV
returns-in-SubV c = rw c.in-SubV.is refl

pub returns-in-MulV : goal.returns-in-MulV
returns-in-MulV c = rw c.in-MulV.is refl

pub returns-in-DivV : goal.returns-in-DivV
returns-in-DivV c = rw c.in-DivV.is refl

pub returns-in-RemV : goal.returns-in-RemV
returns-in-RemV c = rw c.in-RemV.is refl

pub returns-in-NegL : goal.returns-in-NegL
returns-in-NegL c = rw c.in-NegL.is refl

pub returns-in-Dup : goal.returns-in-Dup
returns-in-Dup c = rw c.in-Dup.is refl

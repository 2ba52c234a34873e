-- What follows each step of filing, by its answer. Assumes nothing.
use Rattle.filing.specs.declared.Step.{Step}
use Rattle.filing.specs.declared.Step.TheVariants.{Take, Read, Return, Look, Create, Write, Sync, Close, Open, Compare, SyncName}
use Rattle.filing.specs.declared.Step.TheVariants.{LookAgain, Rename, SyncFolder, Abandon, Remove, Withdraw, Filed, Failed, Kept}
use Rattle.filing.specs.declared.Answer.{Answer}
use Rattle.filing.specs.declared.Answer.TheVariants.{Well, Badly}

-- the step after one that went well
abbrev pub onward : Step → Step
onward Take = Read
onward Read = Return
onward Return = Look
onward Look = Create
onward Create = Write
onward Write = Sync
onward Sync = Close
onward Close = Open
onward Open = Compare
onward Compare = SyncName
onward SyncName = LookAgain
onward LookAgain = Rename
onward Rename = SyncFolder
onward SyncFolder = Filed
onward Abandon = Remove
onward Remove = Failed
onward Withdraw = Kept
onward Filed = Filed
onward Failed = Failed
onward Kept = Kept

-- the step after one that went badly
abbrev pub back : Step → Step
back Take = Failed
back Read = Failed
back Return = Failed
back Look = Failed
back Create = Failed
back Write = Abandon
back Sync = Abandon
back Close = Remove
back Open = Remove
back Compare = Remove
back SyncName = Remove
back LookAgain = Remove
back Rename = Remove
back SyncFolder = Withdraw
back Abandon = Remove
back Remove = Failed
back Withdraw = Kept
back Filed = Filed
back Failed = Failed
back Kept = Kept

-- the step after a step and its answer
abbrev pub next_of : Step → Answer → Step
next_of s Well = onward s
next_of s Badly = back s

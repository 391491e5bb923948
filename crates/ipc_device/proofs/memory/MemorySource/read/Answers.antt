use Rattle.std.proofs.Common.{◌≤◌, length, rules}
use Rattle.ipc_device.proofs.FromMemory.{given, ended}
use Rattle.ipc_device.proofs.memory.MemorySource.read.Goals as goal

pub returns-clause-bytes : goal.returns-clause-bytes
returns-clause-bytes c =
    let items = c.args.self.now.bytes.items in
    let inside : c.args.self.now.at ≤ length items = search rules in
    let count = rw c.deref.ensures.value at c.min-count.ensures in
    let copied = rw c.deref.ensures.value at c.copy_from_slice.ensures.after in
    let buffer = c.args.into.now in
    let front = c.copy_from_slice.new.self in
    let at = c.args.self.now.at in
    let n = c.min-count.result in
    (given items buffer front at n inside count copied, ended items buffer front at n inside count copied)

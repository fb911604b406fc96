use Rattle.ddt_deploy.proofs.FoldersLemmas.MemoryLemmas.{began, left_there, put_or_kept}
use Rattle.ddt_deploy.proofs.folders.folder_in_memory.FolderInMemoryFolder.write_beside.Goals as goal

pub returns-in-Ok : goal.returns-in-Ok
returns-in-Ok c = λ s h.
    let call = c.put_beside in
    put_or_kept c.begin.new.self call.new.self s
    (began c.args.self.now c.begin.new.self s h c.begin.ensures.files c.begin.ensures.beside c.begin.ensures.touches)
    c.args.name call.ensures.files call.ensures.touches c.args.bytes.now call.result call.ensures.put
    call.ensures.refused

pub returns-in-Err : goal.returns-in-Err
returns-in-Err c = λ s h.
    let call = c.put_beside-in-Err in
    left_there c.begin.new.self call.new.self s
    (began c.args.self.now c.begin.new.self s h c.begin.ensures.files c.begin.ensures.beside c.begin.ensures.touches)
    c.args.name call.ensures.files call.ensures.touches _ call.result call.ensures.put call.ensures.refused

use Rattle.sync_erase.specs.ErasedForm.{decl_text}
use Rattle.sync_erase.proofs.Lines.{flat_more_at, flat_all}
use Rattle.sync_erase.proofs.printing.declarations.Goals as goal

pub loop-decl-preserved : goal.loop-decl-preserved
loop-decl-preserved c = flat_more_at (decl_text c.args.names.now) c.args.out.now.items c.loop-decl.out.items c.declaration.new.out.items c.loop-decl.decl-index c.args.decls.now _
    c.loop-decl-test.true c.in_ok-declaration.ensures c.loop-decl.invariant

pub returns : goal.returns
returns c = flat_all (decl_text c.args.names.now) c.args.out.now.items c.loop-decl.out.items c.loop-decl.decl-index c.args.decls.now c.loop-decl-test.false c.loop-decl.invariant

-- The line's end is moved with its feed.
use Rattle.std.proofs.Common.{sym, ◌∙◌}
use Rattle.vg_io.proofs.Bytes.{cut_range}
use Rattle.vg_io.proofs.chunk.Chunk.take_part.Goals as goal

pub returns-in-Ok-Some : goal.returns-in-Ok-Some
returns-in-Ok-Some c =
    let h = rw (c.in-Ok-Some.field-0-is, c.deref.ensures.value) at c.in-Ok-Some.ensures in (
      _,
      h.1,
      sym c.self.view_is
          ∙ cut_range c.self.inside.buf.items c.self.inside.start c.self.inside.end _ h.0 h.2,
      h.3,
    )

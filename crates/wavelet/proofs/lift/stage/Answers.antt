-- `lift::stage` meets its contract: each stage of the code's table computes to that of the definitions.
use Rattle.std.proofs.Common.{refl}
use Rattle.wavelet.specs.Code.Table.{stage_of, stages}
use Rattle.wavelet.specs.Laws.Table.{by_cases}
use Rattle.wavelet.specs.Filters.{dd97, legall, dd137, haar0, haar1, fidelity, daub97}
use Rattle.wavelet.proofs.lift.stage.Goals as goal

pub returns : goal.returns
unfolding stage_of stages dd97 legall dd137 haar0 haar1 fidelity daub97
returns c = by_cases c.args.j 16 c.requires (
  λ e. rw e refl,
  (
    λ e. rw e refl,
    (
      λ e. rw e refl,
      (
        λ e. rw e refl,
        (
          λ e. rw e refl,
          (
            λ e. rw e refl,
            (
              λ e. rw e refl,
              (
                λ e. rw e refl,
                (
                  λ e. rw e refl,
                  (
                    λ e. rw e refl,
                    (
                      λ e. rw e refl,
                      (
                        λ e. rw e refl,
                        (
                          λ e. rw e refl,
                          (
                            λ e. rw e refl,
                            (
                              λ e. rw e refl,
                              (
                                λ e. rw e refl,
                                tt,
                              ),
                            ),
                          ),
                        ),
                      ),
                    ),
                  ),
                ),
              ),
            ),
          ),
        ),
      ),
    ),
  ),
)

use Rattle.cc2_tables.proofs.http.HttpConfigFields.is_unset.Goals as goal

pub returns-9 : goal.returns-9
returns-9 c =
    λ t. (
      c.is_unset-is_unset.ensures search,
      (
        c.is_unset-is_unset-2.ensures search,
        (
          c.is_unset-is_unset-3.ensures search,
          (
            c.is_unset-is_unset-4.ensures search,
            (
              c.is_unset-is_unset-5.ensures search,
              (
                c.is_unset-is_unset-6.ensures search,
                (
                  c.is_unset-is_unset-7.ensures search,
                  (
                    c.is_unset-is_unset-8.ensures search,
                    tt,
                  ),
                ),
              ),
            ),
          ),
        ),
      ),
    )
